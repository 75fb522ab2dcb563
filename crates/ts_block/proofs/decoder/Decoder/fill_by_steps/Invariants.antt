use Rattle.std.proofs.Common.{◌≡◌, ◌++◌, ◌+◌, length, take}
use Rattle.ts_block.proofs.decoder.Decoder.fill_by_steps.Given as goal

abbrev pub invariant-loop-i : goal.invariant-loop-i
invariant-loop-i l = record {
  points : l.fn.self ≡ take l.i l.room ++ l.decoder;
  size : length l.fn.self ≡ length l.decoder + l.i;
}
