use Rattle.ts_raw.proofs.SlidingLemmas.{IsLeast}
use Rattle.ts_raw.proofs.sliding.search_next.Given as goal

abbrev pub invariant-loop-at : goal.invariant-loop-at
invariant-loop-at l = IsLeast l.from l.handles l.at l.next
