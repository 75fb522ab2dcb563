use Rattle.std.proofs.Common.{map, take}
use Rattle.std.specs.List.{AllByRecursion}
use Rattle.ts_image.specs.ImageTests.{IsImageCell}
use Rattle.ts_image.specs.RuleParts.{rule_from_parts}
use Rattle.ts_image.specs.CellParts.{cell_of_parts}
use Rattle.ts_image.proofs.check.cells.are_cells_possible.Given as goal

abbrev pub invariant-loop-cell : goal.invariant-loop-cell
invariant-loop-cell g l = AllByRecursion (IsImageCell l.mark (rule_from_parts l.rule) l.low) (map cell_of_parts (take l.cell-index l.cells))
