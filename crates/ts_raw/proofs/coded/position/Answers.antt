use Rattle.std.proofs.Common.{rules, ◌≡◌, ◌∙◌, ◌<◌, ◌≤◌, max, ap, sym, subst, int_lt, length, get_or, arith, SFits, w64, to_z-of_z}
use Rattle.std.proofs.lemmas.Bool.{ltb-true}
use Rattle.std.proofs.lemmas.List.Sorted.{IsPartitionPoint-from_clause}
use Rattle.ts_raw.specs.declared.block_handle.BlockHandle.{BlockHandle}
use Rattle.ts_raw.specs.CodedPoints.{IsBlockHandle, IsLastBefore, block_points_at, before_first}
use Rattle.ts_raw.proofs.CodedLemmas.{parted_by_last}
use Rattle.ts_raw.proofs.BlockLists.{mark_at}
use Rattle.ts_raw.proofs.ColumnBlocks.{skipped_first, skipped_later, dropped_all}
use Rattle.ts_raw.proofs.coded.position.Goals.{After-partition_point-at, In-Some, After-count_in-count}
use Rattle.ts_raw.proofs.coded.position.Goals as goal

found : (c : After-partition_point-at) → IsLastBefore c.args.time c.args.handles.now c.partition_point-at.result
found c =
    IsPartitionPoint-from_clause (λ (m : BlockHandle). int_lt m.last c.args.time) _ _ c.partition_point-at.ensures.partitioned
    (parted_by_last c.args.handles.now c.args.time c.requires.coded.ordered) (λ a r q k. search rules)

inside : (c : In-Some) → c.partition_point-at.result < length c.args.handles.now
inside c = ltb-true c.partition_point-at.result (length c.args.handles.now) (sym c.in-Some.ensures.lookup.0)

there : (c : In-Some) → c.in-Some.handle.now ≡ get_or c.args.handles.now c.partition_point-at.result c.in-Some.handle.now
there c = c.in-Some.ensures.lookup.1

pub decoder_of-requires : goal.decoder_of-requires
decoder_of-requires c =
    let at = (goal.at.decoder_of-requires c).In-Some in
    subst (IsBlockHandle c.args.bytes.now) (sym (there at)) (mark_at c.args.bytes.now c.args.handles.now c.partition_point-at.result c.in-Some.handle.now c.requires.coded.marked (inside at))

count : (c : After-count_in-count) (h : c.in-Some.handle.now ≡ get_or c.args.handles.now c.partition_point-at.result c.in-Some.handle.now)
    → c.count_in-count.result ≡ before_first c.args.time (block_points_at c.args.bytes.now (get_or c.args.handles.now c.partition_point-at.result c.in-Some.handle.now))
count c h =
    let fits : SFits w64 c.args.time = search rules in
    c.count_in-count.ensures.count ∙ (λ i. before_first (to_z-of_z fits i) (c.decoder_of.ensures i)) ∙ ap (λ (m : BlockHandle). before_first c.args.time (block_points_at c.args.bytes.now m)) h

pub returns-then-at-eq0-clause-points : goal.returns-then-at-eq0-clause-points
returns-then-at-eq0-clause-points c =
    let a = goal.at.returns-then-at-eq0-clause-points c in
    let n = count a.After-count_in-count (there a.In-Some) in
    (skipped_first c.args.bytes.now c.args.handles.now c.args.cut c.partition_point-at.result c.args.time c.requires.coded c.requires.cut c.partition_point-at.ensures.bound (found a.After-partition_point-at) c.in-Some.handle.now c.max.result (inside a.In-Some) c.if-at-eq0.true (c.max.ensures ∙ ap (λ k. max k c.args.cut) n)).0

pub returns-then-at-eq0-clause-cut : goal.returns-then-at-eq0-clause-cut
returns-then-at-eq0-clause-cut c =
    let a = goal.at.returns-then-at-eq0-clause-cut c in
    let n = count a.After-count_in-count (there a.In-Some) in
    (skipped_first c.args.bytes.now c.args.handles.now c.args.cut c.partition_point-at.result c.args.time c.requires.coded c.requires.cut c.partition_point-at.ensures.bound (found a.After-partition_point-at) c.in-Some.handle.now c.max.result (inside a.In-Some) c.if-at-eq0.true (c.max.ensures ∙ ap (λ k. max k c.args.cut) n)).1

-- ---- a later one

pub returns-clause-points : goal.returns-clause-points
returns-clause-points c =
    let a = goal.at.returns-clause-points c in
    (skipped_later c.args.bytes.now c.args.handles.now c.args.cut c.partition_point-at.result c.args.time c.requires.coded c.requires.cut c.partition_point-at.ensures.bound (found a.After-partition_point-at) c.in-Some.handle.now c.count_in-count.result (inside a.In-Some) c.if-at-eq0.false (count a.After-count_in-count (there a.In-Some))).0

pub returns-clause-cut : goal.returns-clause-cut
returns-clause-cut c =
    let a = goal.at.returns-clause-cut c in
    (skipped_later c.args.bytes.now c.args.handles.now c.args.cut c.partition_point-at.result c.args.time c.requires.coded c.requires.cut c.partition_point-at.ensures.bound (found a.After-partition_point-at) c.in-Some.handle.now c.count_in-count.result (inside a.In-Some) c.if-at-eq0.false (count a.After-count_in-count (there a.In-Some))).1

-- ---- none

end : (c : After-partition_point-at) → length c.args.handles.now ≤ c.partition_point-at.result → c.partition_point-at.result ≡ length c.args.handles.now
end c h = let b = c.partition_point-at.ensures.bound in omega arith

pub returns-in_default-clause-points : goal.returns-in_default-clause-points
returns-in_default-clause-points c =
    let a = (goal.at.returns-in_default-clause-points c).After-partition_point-at in
    let past : length c.args.handles.now ≤ c.partition_point-at.result = search rules in
    (dropped_all c.args.bytes.now c.args.handles.now c.args.cut c.partition_point-at.result c.args.time c.requires.coded c.requires.cut c.partition_point-at.ensures.bound (found a) (end a past)).0
