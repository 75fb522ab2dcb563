use Rattle.ts_core.specs.aggregates.Aggregates.{merged, aggregate_of_points}
use Rattle.ts_store.specs.rollup.LivePoints.{points_since}
use Rattle.ts_store.proofs.rollup.RollupSeriesPoints.{IsMerging}
use Rattle.ts_store.proofs.rollup.live_parts.with_points_since.Given as goal

abbrev pub invariant-loop-time : goal.invariant-loop-time
invariant-loop-time l = IsMerging (merged l.fn.total (aggregate_of_points (points_since l.fn.mark l.fn.points))) l.all (points_since l.fn.mark l.time-iterator)
