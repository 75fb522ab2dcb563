use Rattle.std.proofs.Common.{◌≡◌, length}
use Rattle.ts_exec.specs.JoinedPieces.{joined_onto}
use Rattle.ts_exec.proofs.joined.extend.Given as goal

abbrev pub invariant-loop-next : goal.invariant-loop-next
invariant-loop-next l = joined_onto l.piece l.left ≡ joined_onto l.fn.piece l.pieces

abbrev pub decreases-loop-next : goal.decreases-loop-next
decreases-loop-next l = length l.left
