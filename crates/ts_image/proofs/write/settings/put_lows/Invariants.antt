use Rattle.std.proofs.Common.{map, take}
use Rattle.std.specs.Int.{w64}
use Rattle.ts_core.proofs.io.OutputBufferLemmas.{done}
use Rattle.ts_image.specs.Formats.{signed_number}
use Rattle.ts_image.specs.FieldWriting.{PutsAll}
use Rattle.ts_image.proofs.Saved.{as_it_is}
use Rattle.ts_image.proofs.write.settings.put_lows.Given as goal

abbrev pub invariant-loop-low : goal.invariant-loop-low
invariant-loop-low g l = PutsAll (signed_number w64) (map as_it_is (take l.low-index l.lows)) l.initial.sink l.initial.out done l.sink l.out
