use Rattle.std.proofs.Common.{List, length, map, subst}
use Rattle.std.specs.List.{sum_by}
use Rattle.ts_image.specs.declared.read.series.ColumnParts.{ColumnParts}
use Rattle.ts_image.specs.Images.{ImageColumn}
use Rattle.ts_image.specs.SeriesParts.{column_of_parts}
use Rattle.ts_image.specs.TestParts.{IsSubtracted}
use Rattle.ts_image.proofs.check.counts.subtract_one.Goals as goal

pub returns : goal.returns
returns g c = subst (λ (l : List (ColumnParts g.row.A.Denot)). IsSubtracted c.args.left (sum_by (λ (x : ImageColumn). length x.points) (map column_of_parts l)) c.subtract_columns.result) c.deref.ensures.value c.subtract_columns.ensures
