use Rattle.ts_store.specs.rollup.LivePoints.{rollup_series_total, left_states}
use Rattle.ts_store.proofs.rollup.RollupSeriesPoints.{IsWalk}
use Rattle.ts_store.proofs.rollup.live_parts.rollup_series_left.Given as goal

abbrev pub invariant-loop-column : goal.invariant-loop-column
invariant-loop-column g l =
    IsWalk l.rule (left_states l.fn.mark l.fn.moved l.columns) l.index (rollup_series_total l.rule l.rollup (left_states l.fn.mark l.fn.moved l.columns) l.fn.series l.index) l.column-items l.column-index l.total
