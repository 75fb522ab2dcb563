use Rattle.std.proofs.Common.{map, take}
use Rattle.std.specs.List.{AllByRecursion}
use Rattle.ts_image.specs.ImageTests.{IsImageColumn}
use Rattle.ts_image.specs.SeriesParts.{column_of_parts}
use Rattle.ts_image.proofs.check.series.are_columns.Given as goal

abbrev pub invariant-loop-column : goal.invariant-loop-column
invariant-loop-column g l = AllByRecursion (IsImageColumn l.mark l.runs) (map column_of_parts (take l.column-index l.columns))
