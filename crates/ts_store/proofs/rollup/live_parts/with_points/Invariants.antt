use Rattle.ts_core.specs.aggregates.Aggregates.{merged, aggregate_of_points}
use Rattle.ts_store.proofs.rollup.RollupSeriesPoints.{IsMerging}
use Rattle.ts_store.proofs.rollup.live_parts.with_points.Given as goal

abbrev pub invariant-loop-time : goal.invariant-loop-time
invariant-loop-time l = IsMerging (merged l.fn.total (aggregate_of_points l.fn.points)) l.all l.time-iterator
