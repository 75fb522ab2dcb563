use Rattle.std.proofs.Common.{rules, List, MatchOption, subst}
use Rattle.ts_core.specs.queries.Queries.{Condition}
use Rattle.ts_exec.specs.ReducedConditions.{IsMetByNone}
use Rattle.ts_exec.specs.SeriesTests.{AreTestsOf}
use Rattle.ts_exec.proofs.scan.Scan.new.Goals as goal

pub invariant_of-result : goal.invariant_of-result
invariant_of-result g c = record {
  width = search rules;
  grid = search rules;
  tests = subst (λ (cs : List Condition). MatchOption c.in_ok-conditions_of.field-0 (IsMetByNone cs) (AreTestsOf cs)) c.conditions.ensures c.in_ok-conditions_of.ensures;
}
