use Rattle.std.proofs.Common.{◌≡◌, ◌+◌, map, take}
use Rattle.std.specs.List.{sum_by}
use Rattle.ts_image.specs.Images.{ImageCell}
use Rattle.ts_image.specs.CellParts.{cell_of_parts}
use Rattle.ts_image.proofs.check.counts.subtract_cells.Given as goal

abbrev pub invariant-loop-cell : goal.invariant-loop-cell
invariant-loop-cell g l = l.left + sum_by (λ (x : ImageCell). x.count) (map cell_of_parts (take l.cell-index l.cells)) ≡ l.initial.left
