use Rattle.std.proofs.Common.{◌≡◌, ◌+◌, map, take}
use Rattle.std.specs.List.{sum_by}
use Rattle.ts_image.specs.ImageTests.{points_of_series}
use Rattle.ts_image.specs.SeriesParts.{series_of_parts}
use Rattle.ts_image.proofs.check.counts.subtract_series.Given as goal

abbrev pub invariant-loop-one : goal.invariant-loop-one
invariant-loop-one g l = l.left + sum_by points_of_series (map series_of_parts (take l.one-index l.series)) ≡ l.initial.left
