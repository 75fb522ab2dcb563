use Rattle.std.proofs.Common.{length, ◌-◌, ◌≡◌, ◌≤◌, drop, ◌+◌, IsCharBoundary}
use Rattle.ts_line.specs.Scan.{spaces, spaces_end}
use Rattle.ts_line.proofs.scan.after_spaces.Given as goal

abbrev pub invariant-loop-at : goal.invariant-loop-at
invariant-loop-at l = (l.from ≤ l.at) × IsCharBoundary l.bytes l.at × (l.at + spaces (drop l.at l.bytes) ≡ spaces_end l.line l.from)

abbrev pub decreases-loop-at : goal.decreases-loop-at
decreases-loop-at l = length l.bytes - l.at
