use Rattle.std.proofs.Common.{rules, ℤ, int_lt}
use Rattle.std.proofs.lemmas.List.Sorted.{IsPartitionPoint-from_clause}
use Rattle.ts_core.proofs.lists.Windows.{rising_first}
use Rattle.ts_raw.proofs.plain_column.count_before.Goals as goal

pub returns-clause-start : goal.returns-clause-start
returns-clause-start c =
    IsPartitionPoint-from_clause (λ (p : ℤ × ℤ). int_lt p.0 c.args.time) _ _ c.partition_point.ensures.partitioned (rising_first c.args.points.now c.requires c.args.time) (λ a r q k. search rules)
