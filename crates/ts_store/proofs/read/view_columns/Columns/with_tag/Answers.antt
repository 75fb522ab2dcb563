use Rattle.std.proofs.Common.{rules, ◌≡◌, ℕ, ◌<◌, Bool, List, length, filter, sym, ◌∙◌, ap, subst}
use Rattle.std.specs.List.{AllByRecursion}
use Rattle.ts_core.specs.facts.Facts.{Text, Column}
use Rattle.ts_core.specs.lists.Numbered.{IsAt}
use Rattle.ts_core.proofs.lists.NumberedLemmas.{at_among}
use Rattle.ts_raw.specs.Tagged.{is_tagged}
use Rattle.ts_raw.proofs.TagLemmas.{if_ok}
use Rattle.ts_store.specs.read.ViewResults.{column_ref_has}
use Rattle.ts_store.proofs.read.ColumnRefLemmas.{numbers-below, tagged_column_refs}
use Rattle.ts_store.proofs.read.view_columns.Columns.with_tag.Goals as goal

pub view_columns_of-requires : goal.view_columns_of-requires
view_columns_of-requires g c =
    let cs : List Column = c.self.inside.index.now.columns in
    let tagged : Column → Bool = is_tagged c.names.result.0.now c.names.result.1.now c.args.tag.now c.args.value.now in
    let ids : c.deref.result.now ≡ c.in_ok-found-in-Some.found.items = search rules in
    subst (AllByRecursion (λ n. n < length cs)) (sym (ids ∙ c.in_ok-found-in-Some.ensures)) (numbers-below tagged cs)

pub returns-in_ok-found-in-Some : goal.returns-in_ok-found-in-Some
returns-in_ok-found-in-Some g c =
    let cs : List Column = c.self.inside.index.now.columns in
    let left : List ℕ = c.self.inside.left.now in
    let first : ℕ = c.in-Some.first.now in
    let m : Text = c.names.result.0.now in
    let f : Text = c.names.result.1.now in
    let tag : Text = c.args.tag.now in
    let value : Text = c.args.value.now in
    let found : List ℕ = c.deref.result.now in
    let ids : found ≡ c.in_ok-found-in-Some.found.items = search rules in
    let at : IsAt left 0 first = sym c.in-Some.ensures.value in
    if_ok c.view_columns_of.result
    (λ v e.
    e ∙ tagged_column_refs cs left found first m f tag value (c.self.invariant.all c.if-not-self.false) (at_among left 0 first at) c.names.ensures (ids ∙ c.in_ok-found-in-Some.ensures)
    ∙ ap (filter (column_ref_has tag value)) c.self.view_is)
    c.view_columns_of.ensures
