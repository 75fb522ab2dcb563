use Rattle.std.proofs.Common.{rules, ℕ, is_lt}
use Rattle.std.specs.List.{slice_get}
use Rattle.std.proofs.lemmas.List.Sorted.{IsPartitionPoint-from_clause}
use Rattle.ts_cells.specs.Grids.{RollupSeries, rollup_series_named}
use Rattle.ts_cells.specs.RollupSeriesTable.{found_cmp}
use Rattle.ts_cells.proofs.RollupSeriesOrder.{order_parts, order_index}
use Rattle.ts_cells.proofs.series_table.index_in_order.Goals as goal

pub returns-clause-slot : goal.returns-clause-slot
returns-clause-slot g c =
    let l : RollupSeries = rollup_series_named c.args.field.now c.args.group.now in
    order_index c.args.rollup_series.now c.args.order.now c.requires.ordered l c.partition_point.result c.requires.absent
    (IsPartitionPoint-from_clause (λ (n : ℕ). is_lt (found_cmp (slice_get c.args.rollup_series.now n) l)) _ _ c.partition_point.ensures.partitioned (order_parts c.args.rollup_series.now c.args.order.now c.requires.ordered l) (λ a r q k. search rules))
