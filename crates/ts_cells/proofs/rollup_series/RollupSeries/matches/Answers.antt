use Rattle.std.proofs.Common.{is_eq, ap, ◌∙◌}
use Rattle.ts_cells.specs.Grids.{rollup_series_named}
use Rattle.ts_cells.proofs.RollupSeriesOrder.{same_rollup_series}
use Rattle.ts_cells.proofs.rollup_series.RollupSeries.matches.Goals as goal

pub returns : goal.returns
returns g c = same_rollup_series c.args.self.now (rollup_series_named c.args.field.now c.args.group.now) c.is_eq.result (c.is_eq.ensures ∙ ap is_eq c.compare.ensures)
