use Rattle.std.proofs.Common.{rules, int_lt}
use Rattle.std.proofs.lemmas.List.Sorted.{IsPartitionPoint-from_clause}
use Rattle.ts_cells.specs.Grids.{RowOf}
use Rattle.ts_core.proofs.lists.Windows.{rising_first}
use Rattle.ts_cells.proofs.walk.count_before.Goals as goal

pub returns-clause-start : goal.returns-clause-start
returns-clause-start g c =
    IsPartitionPoint-from_clause (λ (r : RowOf g.row.P.Denot). int_lt r.0 c.args.index.now) _ _ c.partition_point.ensures.partitioned (rising_first c.args.rows.now c.requires c.args.index.now) (λ a r q k. search rules)
