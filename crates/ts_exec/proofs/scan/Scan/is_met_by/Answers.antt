use Rattle.std.proofs.Common.{◌∙◌, ap, subst, Option, MatchOption}
use Rattle.std.specs.List.{list_all}
use Rattle.ts_core.specs.facts.Facts.{Series}
use Rattle.ts_core.specs.plans.Assembly.{representative}
use Rattle.ts_core.specs.queries.Queries.{Query, meets}
use Rattle.ts_exec.specs.ReducedConditions.{IsMetByNone}
use Rattle.ts_exec.specs.SeriesTests.{SeriesTests, AreTestsOf}
use Rattle.ts_exec.proofs.Tested.{zip_distinct}
use Rattle.ts_exec.proofs.scan.Scan.is_met_by.Goals as goal

pub returns-in-Some : goal.returns-in-Some
returns-in-Some g c =
    let s : Series = (representative c.args.rule.now c.args.cell.now.cell).column.series in
    let own : Query = c.self.inside.query.now.query in
    let tests : AreTestsOf own.conditions c.in-Some.tests =
    subst (λ (t : Option SeriesTests). MatchOption t (IsMetByNone own.conditions) (AreTestsOf own.conditions)) c.in-Some.is c.self.invariant.tests in
    c.are_met_by.ensures
    ∙ tests s (zip_distinct c.args.rule.now.kept_tags c.args.cell.now.cell.group c.requires)
    ∙ ap (λ (q : Query). list_all (meets s) q.conditions) c.self.view_is
