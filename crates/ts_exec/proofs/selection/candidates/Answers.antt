use Rattle.std.proofs.Common.{◌≡◌, List, filter, ◌∙◌, ap, subst}
use Rattle.ts_core.specs.facts.Facts.{Text, is_of}
use Rattle.ts_core.specs.queries.Queries.{Query, Condition}
use Rattle.ts_core.specs.store.StoreStates.{ColumnPoints}
use Rattle.ts_raw.proofs.TagLemmas.{if_ok}
use Rattle.ts_store.specs.read.ViewResults.{ColumnRef, column_refs_where, column_ref_has}
use Rattle.ts_exec.specs.GroupTables.{selected_column_refs, IsNarrowing}
use Rattle.ts_exec.proofs.Selected.{selected_narrowed}
use Rattle.ts_exec.proofs.selection.candidates.Goals as goal

pub returns-in-Some : goal.returns-in-Some
returns-in-Some g c =
    let q : Query = c.args.query.now.query in
    let k : Condition = c.in-Some.condition.now in
    let cs : List ColumnPoints = (g.V.View.seen c.args.view.now).columns in
    let all : List ColumnRef = column_refs_where (is_of q.measurement q.field) cs in
    let is : IsNarrowing q.conditions k = subst (λ (conditions : List Condition). IsNarrowing conditions k) c.conditions.ensures c.in-Some.ensures in
    let columns : c.columns_of-columns.result ≡ all =
    c.columns_of-columns.ensures ∙ ap (λ (m : Text). column_refs_where (is_of m c.field.result.now) cs) c.measurement.ensures
    ∙ ap (λ (f : Text). column_refs_where (is_of q.measurement f) cs) c.field.ensures in
    if_ok c.with_tag.result
    (λ v e.
    ap (selected_column_refs q.conditions)
    (e ∙ ap (λ (t : Text). filter (column_ref_has t c.value.result.now) c.columns_of-columns.result) c.tag.ensures
    ∙ ap (λ (t : Text). filter (column_ref_has k.tag t) c.columns_of-columns.result) c.value.ensures
    ∙ ap (filter (column_ref_has k.tag k.value)) columns)
    ∙ selected_narrowed q.conditions k is all)
    c.with_tag.ensures
