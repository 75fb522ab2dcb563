use Rattle.std.proofs.Common.{rules, length, int_lt, sym, ◌∙◌}
use Rattle.std.proofs.lemmas.Bool.{ltb-true}
use Rattle.std.proofs.lemmas.List.Sorted.{IsPartitionPoint-from_clause}
use Rattle.ts_raw.specs.declared.block_handle.BlockHandle.{BlockHandle}
use Rattle.ts_raw.proofs.CodedLemmas.{parted_by_last}
use Rattle.ts_raw.proofs.PointMaps.{less_is}
use Rattle.ts_raw.proofs.PushLemmas.{behind_last, less_from, all_parted}
use Rattle.ts_raw.proofs.appending.blocks_before.Goals as goal

pub returns-in-Some-clause-parted : goal.returns-in-Some-clause-parted
returns-in-Some-clause-parted c =
    all_parted c.args.time c.args.handles.now
    (behind_last c.args.handles.now c.in-Some.handle.now c.args.time c.requires c.in-Some.ensures.item.1 (ltb-true 0 (length c.args.handles.now) (sym c.in-Some.ensures.item.0)) (less_from _ _ (less_is _ (sym c.lt.ensures ∙ c.if-lt.true))))

pub returns-in_default-clause-parted : goal.returns-in_default-clause-parted
returns-in_default-clause-parted c =
    IsPartitionPoint-from_clause (λ (m : BlockHandle). int_lt m.last c.args.time) _ _ c.partition_point.ensures.partitioned
    (parted_by_last c.args.handles.now c.args.time c.requires) (λ a r q k. search rules)
