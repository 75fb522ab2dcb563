use Rattle.std.proofs.Common.{◌≡◌, drop}
use Rattle.ts_core.specs.plans.Faults.{gap_at}
use Rattle.ts_check.proofs.valid.gap.Given as goal

abbrev pub invariant-loop-number : goal.invariant-loop-number
invariant-loop-number l = gap_at l.number l.at l.end (drop l.number l.pieces) ≡ gap_at 0 l.from l.end l.pieces
