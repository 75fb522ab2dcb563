use Rattle.ts_plan.proofs.StepMoves.{Moved}
use Rattle.ts_plan.proofs.prune.prune_steps.Given as goal

abbrev pub invariant-loop-index : goal.invariant-loop-index
invariant-loop-index g l = Moved l.context l.index l.begin l.steps l.initial.steps

abbrev pub decreases-loop-index : goal.decreases-loop-index
decreases-loop-index g l = l.index
