use Rattle.std.proofs.Common.{◌≡◌, take}
use Rattle.ts_check.proofs.checked.try_clone.Given as goal

abbrev pub invariant-loop-piece : goal.invariant-loop-piece
invariant-loop-piece g l = l.all.items ≡ take l.piece-index l.pieces
