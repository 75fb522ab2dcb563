use Rattle.ts_plan.proofs.Scans.{Scanned, left_to}
use Rattle.ts_plan.proofs.steps.push_steps.Given as goal

abbrev pub invariant-loop-next : goal.invariant-loop-next
invariant-loop-next g l = Scanned l.context l.number l.marked l.next l.fn.steps.items l.steps.items

abbrev pub decreases-loop-next : goal.decreases-loop-next
decreases-loop-next g l = left_to l.context.query.to l.next
