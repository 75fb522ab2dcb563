use Rattle.std.proofs.Common.{ℤ, ◌-◌, map}
use Rattle.std.specs.Int.{w64}
use Rattle.ts_image.specs.Formats.{signed_number}
use Rattle.ts_image.proofs.Loops.{HasRead}
use Rattle.ts_image.proofs.read.cells.read_lows.Given as goal

abbrev as_it_is : ℤ → ℤ
as_it_is z = z

abbrev pub invariant-loop : goal.invariant-loop
invariant-loop g l = HasRead (signed_number w64) l.count (l.count - l.counter) (map as_it_is l.lows.items) l.initial.reader l.initial.source l.reader l.source
