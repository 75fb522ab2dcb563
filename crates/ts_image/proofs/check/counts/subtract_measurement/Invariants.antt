use Rattle.std.proofs.Common.{◌≡◌, ◌+◌, map, take}
use Rattle.std.specs.List.{sum_by}
use Rattle.ts_image.specs.TestParts.{points_if}
use Rattle.ts_image.specs.SeriesParts.{series_of_parts}
use Rattle.ts_image.proofs.check.counts.subtract_measurement.Given as goal

abbrev pub invariant-loop-one : goal.invariant-loop-one
invariant-loop-one g l = l.left + sum_by (points_if l.measurement) (map series_of_parts (take l.one-index l.series)) ≡ l.initial.left
