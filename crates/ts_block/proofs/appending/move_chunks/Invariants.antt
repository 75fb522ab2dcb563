use Rattle.std.proofs.Common.{◌≡◌, ◌≤◌, length}
use Rattle.ts_block.specs.Moving.{moved_up}
use Rattle.ts_block.proofs.appending.move_chunks.Given as goal

abbrev pub invariant-loop-left : goal.invariant-loop-left
invariant-loop-left l = record {
  low : l.at ≤ l.left;
  high : l.left ≤ l.end;
  same : length l.bytes ≡ length l.fn.bytes;
  moved : l.bytes ≡ moved_up l.fn.bytes l.end l.left;
}

abbrev pub decreases-loop-left : goal.decreases-loop-left
decreases-loop-left l = l.left
