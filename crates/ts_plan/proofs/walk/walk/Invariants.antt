use Rattle.std.proofs.Common.{◌≡◌, ◌++◌, drop}
use Rattle.std.specs.List.{AllByRecursion}
use Rattle.ts_core.specs.plans.Plans.{joined}
use Rattle.ts_plan.specs.Steps.{IsStep, walked}
use Rattle.ts_plan.specs.Joins.{ArePending, joined_after}
use Rattle.ts_plan.proofs.walk.walk.Given as goal

abbrev pub invariant-loop-step : goal.invariant-loop-step
invariant-loop-step g l = record {
  pending : ArePending l.context l.pending;
  left : AllByRecursion (IsStep l.context) (drop l.step-index l.steps);
  walked : l.pieces.items ++ joined_after l.context l.pending (walked l.context l.at (drop l.step-index l.steps))
      ≡ joined l.context (walked l.context l.context.query.from l.steps);
}
