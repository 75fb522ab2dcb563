use Rattle.std.proofs.Common.{map, take}
use Rattle.ts_image.specs.Saving.{image_series_of}
use Rattle.ts_image.specs.declared.version.Version.TheVariants.{V2}
use Rattle.ts_image.specs.Images.{image_series}
use Rattle.ts_core.proofs.io.OutputBufferLemmas.{done}
use Rattle.ts_image.specs.FieldWriting.{PutsAll}
use Rattle.ts_image.proofs.write.store_series.put_all_series.Given as goal

abbrev pub invariant-loop-series : goal.invariant-loop-series
invariant-loop-series g l = PutsAll (image_series V2) (map (image_series_of l.store) (take l.series-index l.all)) l.initial.sink l.initial.out done l.sink l.out
