use Rattle.std.proofs.Common.{map, take}
use Rattle.ts_image.specs.Saving.{image_column_of}
use Rattle.ts_image.specs.declared.version.Version.TheVariants.{V2}
use Rattle.ts_image.specs.Images.{image_column}
use Rattle.ts_core.proofs.io.OutputBufferLemmas.{done}
use Rattle.ts_image.specs.FieldWriting.{PutsAll}
use Rattle.ts_image.proofs.write.store_series.put_columns.Given as goal

abbrev pub invariant-loop-column : goal.invariant-loop-column
invariant-loop-column g l = PutsAll (image_column V2) (map (image_column_of l.store) (take l.column-index l.columns)) l.initial.sink l.initial.out done l.sink l.out
