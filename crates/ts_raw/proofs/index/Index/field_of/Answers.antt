use Rattle.std.proofs.Common.{◌≡◌, ℕ, List, map, get_or, sym, ◌∙◌, ap, subst}
use Rattle.std.proofs.lemmas.Option.{get_or_from_slice_get}
use Rattle.ts_core.specs.facts.Facts.{Series, Column}
use Rattle.ts_raw.specs.FieldKeys.{FieldKey}
use Rattle.ts_raw.specs.ColumnTables.{ColumnNumbers}
use Rattle.ts_raw.specs.IndexParts.{no_field, column_named}
use Rattle.ts_raw.specs.Indexed.{Indexed}
use Rattle.ts_core.specs.lists.Numbered.{IsAt}
use Rattle.ts_core.proofs.lists.MembersLemmas.{at_map_of}
use Rattle.ts_core.proofs.lists.NumberedLemmas.{same_at}
use Rattle.ts_raw.proofs.index.Index.field_of.Goals as goal

pub key-requires : goal.key-requires
key-requires g c = (c.self.invariant.named c.args.column c.numbers-number.result c.numbers-number.ensures).field_there

pub returns : goal.returns
returns g c = λ column at.
    let series : List Series = c.self.inside.series in
    let fields : List FieldKey = c.self.inside.fields in
    let t : ColumnNumbers = c.self.inside.columns in
    let x : ℕ × ℕ = c.numbers-number.result in
    let there : IsAt (map (column_named series fields) t.columns) c.args.column column = subst (λ (i : Indexed). IsAt i.columns c.args.column column) (sym c.self.view_is) at in
    let same : column_named series fields x ≡ column =
    same_at (map (column_named series fields) t.columns) c.args.column (column_named series fields x) column (at_map_of (column_named series fields) t.columns c.args.column x c.numbers-number.ensures) there in
    let key : get_or fields x.1 no_field ≡ c.key.result.now = get_or_from_slice_get fields x.1 c.key.result.now no_field c.key.ensures in
    c.field.ensures ∙ ap (λ (k : FieldKey). k.field) (sym key) ∙ ap (λ (d : Column). d.field) same
