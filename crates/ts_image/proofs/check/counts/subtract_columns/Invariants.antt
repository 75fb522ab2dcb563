use Rattle.std.proofs.Common.{◌≡◌, ◌+◌, map, take, length}
use Rattle.std.specs.List.{sum_by}
use Rattle.ts_image.specs.Images.{ImageColumn}
use Rattle.ts_image.specs.SeriesParts.{column_of_parts}
use Rattle.ts_image.proofs.check.counts.subtract_columns.Given as goal

abbrev pub invariant-loop-column : goal.invariant-loop-column
invariant-loop-column g l = l.left + sum_by (λ (x : ImageColumn). length x.points) (map column_of_parts (take l.column-index l.columns)) ≡ l.initial.left
