use Rattle.std.proofs.Common.{◌≡◌, ◌-◌, [], ◌++◌, take, Some}
use Rattle.ts_block.specs.Decoding.{CanRead, points_left}
use Rattle.ts_block.proofs.decoder.fill_spaced.Given as goal

abbrev pub invariant-loop-i : goal.invariant-loop-i
invariant-loop-i l = record {
  can : CanRead (Some l.step) (l.left - l.i) l.time [] l.values;
  points : points_left (Some l.step) l.fn.left l.fn.time [] l.fn.values ≡ take l.i l.room ++ points_left (Some l.step) (l.left - l.i) l.time [] l.values;
}
