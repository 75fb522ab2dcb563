use Rattle.std.proofs.Common.{◌-◌, map}
use Rattle.ts_image.specs.SeriesParts.{column_of_parts}
use Rattle.ts_image.specs.Images.{image_column}
use Rattle.ts_image.proofs.Loops.{HasRead}
use Rattle.ts_image.proofs.read.series.read_columns.Given as goal

abbrev pub invariant-loop : goal.invariant-loop
invariant-loop g l = HasRead (image_column l.version) l.count (l.count - l.counter) (map column_of_parts l.columns.items) l.initial.reader l.initial.source l.reader l.source
