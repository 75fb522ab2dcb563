use Rattle.std.proofs.Common.{arith, ◌+◌}
use Rattle.ts_image.specs.Images.{ImageCell}
use Rattle.ts_image.specs.CellParts.{cell_of_parts}
use Rattle.ts_image.proofs.Testing.{sum_next, sum_le, sum_done}
use Rattle.ts_image.proofs.check.counts.subtract_cells.Goals as goal

pub loop-cell-preserved : goal.loop-cell-preserved
loop-cell-preserved g c = omega (arith, sum_next (λ (x : ImageCell). x.count) cell_of_parts c.args.cells.now c.loop-cell.cell-index c.cell-item.result c.loop-cell-test.true c.cell-item.is, c.loop-cell.invariant)

pub returns-then-cell-left : goal.returns-then-cell-left
returns-then-cell-left g c = omega (arith, sum_next (λ (x : ImageCell). x.count) cell_of_parts c.args.cells.now c.loop-cell.cell-index c.cell-item.result c.loop-cell-test.true c.cell-item.is, sum_le (λ (x : ImageCell). x.count) cell_of_parts c.args.cells.now (c.loop-cell.cell-index + 1), c.loop-cell.invariant)

pub returns : goal.returns
returns g c = omega (arith, sum_done (λ (x : ImageCell). x.count) cell_of_parts c.args.cells.now c.loop-cell.cell-index c.loop-cell-test.false, c.loop-cell.invariant)
