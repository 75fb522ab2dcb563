use Rattle.std.proofs.Common.{arith, ◌+◌, length}
use Rattle.ts_image.specs.Images.{ImageColumn}
use Rattle.ts_image.specs.SeriesParts.{column_of_parts}
use Rattle.ts_image.proofs.Testing.{sum_next, sum_le, sum_done}
use Rattle.ts_image.proofs.check.counts.subtract_columns.Goals as goal

pub loop-column-preserved : goal.loop-column-preserved
loop-column-preserved g c = omega (arith, sum_next (λ (x : ImageColumn). length x.points) column_of_parts c.args.columns.now c.loop-column.column-index c.column-item.result c.loop-column-test.true c.column-item.is, c.loop-column.invariant, c.in-Some.ensures)

pub returns-in-None : goal.returns-in-None
returns-in-None g c = omega (arith, sum_next (λ (x : ImageColumn). length x.points) column_of_parts c.args.columns.now c.loop-column.column-index c.column-item.result c.loop-column-test.true c.column-item.is, sum_le (λ (x : ImageColumn). length x.points) column_of_parts c.args.columns.now (c.loop-column.column-index + 1), c.loop-column.invariant, c.in-None.ensures)

pub returns : goal.returns
returns g c = omega (arith, sum_done (λ (x : ImageColumn). length x.points) column_of_parts c.args.columns.now c.loop-column.column-index c.loop-column-test.false, c.loop-column.invariant)
