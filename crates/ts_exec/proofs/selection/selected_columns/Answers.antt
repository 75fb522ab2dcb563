use Rattle.std.proofs.Common.{rules, ◌≡◌, ◌∙◌, subst}
use Rattle.std.specs.List.{list_all}
use Rattle.std.proofs.lemmas.Fn.{filter_same}
use Rattle.ts_core.specs.facts.Facts.{is_of}
use Rattle.ts_core.specs.text.Texts.{IsTagSet}
use Rattle.ts_core.specs.queries.Queries.{Query, meets}
use Rattle.ts_store.specs.read.ViewResults.{ColumnRef, column_refs_where}
use Rattle.ts_exec.specs.ReducedConditions.{IsMetByNone}
use Rattle.ts_exec.specs.SeriesTests.{SeriesTests, AreTestsOf, meets_tests}
use Rattle.ts_exec.proofs.Reduced.{none-selected}
use Rattle.ts_exec.proofs.Tested.{set_distinct}
use Rattle.ts_exec.proofs.selection.selected_columns.Goals as goal

pub returns-in_default : goal.returns-in_default
returns-in_default g c =
    let q : Query = c.args.query.now.query in
    let none : IsMetByNone c.conditions.result.now = search rules in
    c.new.ensures.items
    ∙ none-selected q.conditions (column_refs_where (is_of q.measurement q.field) (g.V.View.seen c.args.view.now).columns) (subst IsMetByNone c.conditions.ensures none)

pub returns : goal.returns
returns g c =
    let q : Query = c.args.query.now.query in
    let t : SeriesTests = c.in-Some.tests in
    let all : AreTestsOf c.conditions.result.now t = search rules in
    let tests : AreTestsOf q.conditions t = subst (λ cs. AreTestsOf cs t) c.conditions.ensures all in
    filter_same _ (λ (s : ColumnRef). list_all (meets s.series) q.conditions) _
    (λ x b f' k.
    let value : b ≡ meets_tests t.needed t.refused x.series = search rules in
    let set : IsTagSet x.series.tags = search rules in
    (value ∙ tests x.series (set_distinct x.series.tags set), search rules))
    _ _ c.retain.ensures.filtered
    ∙ c.in_ok-found.ensures
