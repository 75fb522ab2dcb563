use Rattle.ts_plan.proofs.Scans.{AllUpTo}
use Rattle.ts_plan.proofs.steps.all_steps.Given as goal

abbrev pub invariant-loop-number : goal.invariant-loop-number
invariant-loop-number g l = AllUpTo l.context l.number l.steps.items
