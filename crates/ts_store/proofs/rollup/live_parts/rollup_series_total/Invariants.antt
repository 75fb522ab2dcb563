use Rattle.ts_store.specs.rollup.LivePoints.{rollup_series_total}
use Rattle.ts_store.proofs.rollup.RollupSeriesPoints.{IsWalk}
use Rattle.ts_store.proofs.rollup.live_parts.rollup_series_total.Given as goal

abbrev pub invariant-loop-column : goal.invariant-loop-column
invariant-loop-column g l = IsWalk l.rule l.columns l.index (rollup_series_total l.rule l.rollup l.columns l.fn.series l.index) l.column-items l.column-index l.total
