use Rattle.std.proofs.Common.{map, drop}
use Rattle.std.specs.Prelude.{◌↔◌}
use Rattle.std.specs.List.{AllByRecursion}
use Rattle.ts_image.specs.ImageTests.{IsImageSeries}
use Rattle.ts_image.specs.SeriesParts.{series_of_parts}
use Rattle.ts_image.proofs.check.series.are_series.Given as goal

abbrev pub invariant-loop-one : goal.invariant-loop-one
invariant-loop-one g l = AllByRecursion (IsImageSeries l.mark l.runs) (map series_of_parts (drop l.one-index l.series)) ↔ AllByRecursion (IsImageSeries l.mark l.runs) (map series_of_parts l.series)
