use Rattle.std.proofs.Common.{arith, ◌+◌}
use Rattle.ts_image.specs.ImageTests.{points_of_series}
use Rattle.ts_image.specs.SeriesParts.{series_of_parts}
use Rattle.ts_image.proofs.Testing.{sum_next, sum_le, sum_done}
use Rattle.ts_image.proofs.check.counts.subtract_series.Goals as goal

pub loop-one-preserved : goal.loop-one-preserved
loop-one-preserved g c = omega (arith, sum_next points_of_series series_of_parts c.args.series.now c.loop-one.one-index c.one-item.result c.loop-one-test.true c.one-item.is, c.loop-one.invariant, c.in-Some.ensures)

pub returns-in-None : goal.returns-in-None
returns-in-None g c = omega (arith, sum_next points_of_series series_of_parts c.args.series.now c.loop-one.one-index c.one-item.result c.loop-one-test.true c.one-item.is, sum_le points_of_series series_of_parts c.args.series.now (c.loop-one.one-index + 1), c.loop-one.invariant, c.in-None.ensures)

pub returns : goal.returns
returns g c = omega (arith, sum_done points_of_series series_of_parts c.args.series.now c.loop-one.one-index c.loop-one-test.false, c.loop-one.invariant)
