use Rattle.std.proofs.Common.{◌≡◌, take}
use Rattle.ts_image.proofs.build.parts.make_marks.Given as goal

abbrev pub invariant-loop-low : goal.invariant-loop-low
invariant-loop-low g l = l.lows.items ≡ take l.low-index l.low-items
