use Rattle.std.proofs.Common.{◌≡◌, [], length, Some}
use Rattle.ts_block.specs.Decoding.{points_left}
use Rattle.ts_block.proofs.OneByteLemmas.{AreFilled}
use Rattle.ts_block.proofs.decoder.fill_bytes.Given as goal

abbrev pub invariant-loop-i : goal.invariant-loop-i
invariant-loop-i l = record {
  filled : AreFilled l.step l.left l.values (points_left (Some l.step) l.fn.left l.fn.time [] l.fn.values) l.i l.time l.room;
  size : length l.room ≡ length l.fn.room;
}
