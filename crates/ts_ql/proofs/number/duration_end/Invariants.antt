use Rattle.std.proofs.Common.{length, ◌-◌, ◌≡◌, ◌≤◌, drop, IsCharBoundary}
use Rattle.ts_ql.specs.Lexing.{parts_end, duration_end}
use Rattle.ts_ql.proofs.number.duration_end.Given as goal

abbrev pub invariant-loop-at : goal.invariant-loop-at
invariant-loop-at l = (l.from ≤ l.last) × (l.from ≤ l.at) × IsCharBoundary l.bytes l.last × (parts_end l.last l.counting l.at (drop l.at l.bytes) ≡ duration_end l.text l.from)

abbrev pub decreases-loop-at : goal.decreases-loop-at
decreases-loop-at l = length l.bytes - l.at
