use Rattle.std.proofs.Common.{◌-◌, map}
use Rattle.ts_image.specs.SeriesParts.{series_of_parts}
use Rattle.ts_image.specs.Images.{image_series}
use Rattle.ts_image.proofs.Loops.{HasRead}
use Rattle.ts_image.proofs.read.series.read_all_series.Given as goal

abbrev pub invariant-loop : goal.invariant-loop
invariant-loop g l = HasRead (image_series l.version) l.count (l.count - l.counter) (map series_of_parts l.series.items) l.initial.reader l.initial.source l.reader l.source
