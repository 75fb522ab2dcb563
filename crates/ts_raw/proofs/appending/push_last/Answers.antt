use Rattle.std.proofs.Common.{rules, Fits, SFits, w64, to_z-of_z, ◌≡◌, ℕ, List, [], ◌∷◌, ◌++◌, ◌+◌, ◌-◌, ◌≤◌, length, ◌∙◌, ap, subst, refl, arith}
use Rattle.std.proofs.Math.Facts.{Fits-le}
use Rattle.ts_core.specs.aggregates.Aggregates.{Aggregate, aggregate_of_one, merged}
use Rattle.ts_core.proofs.aggregates.AggregatesLemmas.{count_of_fold}
use Rattle.ts_block.specs.Appending.{EndsInBlock}
use Rattle.ts_raw.specs.declared.block_handle.BlockHandle.{BlockHandle}
use Rattle.ts_raw.specs.CodedPoints.{block_points_at}
use Rattle.ts_raw.proofs.PushLemmas.{last_ends, values_fit, grown_block}
use Rattle.ts_raw.proofs.appending.push_last.Given.{Over}
use Rattle.ts_raw.proofs.appending.push_last.Goals.{Start, After-append-values}
use Rattle.ts_raw.proofs.appending.push_last.Goals as goal

old_ends : (g : Over) (c : Start g) → EndsInBlock c.args.bytes.now.items c.args.handle.now.start (c.args.handle.now.start + c.args.handle.now.values) c.args.handle.now.last (block_points_at c.args.bytes.now.items c.args.handle.now)
old_ends g c = last_ends c.args.bytes.now.items c.args.handle.now c.requires.marked (omega (arith, c.requires.ends, c.args.bytes.now.ok.0))

new_ends : (g : Over) (c : After-append-values g) → EndsInBlock c.args.bytes.now.items c.args.handle.now.start (c.args.handle.now.start + c.args.handle.now.values) c.args.handle.now.last (block_points_at c.args.bytes.now.items c.args.handle.now)
    → EndsInBlock c.append-values.new.bytes.items c.args.handle.now.start c.append-values.result c.args.point.now.0 (block_points_at c.args.bytes.now.items c.args.handle.now ++ c.args.point.now ∷ [])
new_ends g c old = c.append-values.ensures.ends (block_points_at c.args.bytes.now.items c.args.handle.now) old

pub append-values-requires-clause-ends : goal.append-values-requires-clause-ends
append-values-requires-clause-ends g c =
    let at = goal.at.append-values-requires-clause-ends g c in
    (block_points_at c.args.bytes.now.items c.args.handle.now, old_ends g at.Start, let f = c.requires.few in let n = c.requires.marked.count_is in omega arith)

pub overflow_add-handle : goal.overflow_add-handle
overflow_add-handle g c =
    let m : BlockHandle = c.args.handle.now in
    let fits = values_fit c.args.bytes.now.items m c.requires.marked in
    let size : Fits w64 m.end = search rules in
    Fits-le (let n : m.start + m.values ≤ m.end = omega (arith, fits, c.requires.ends, c.args.bytes.now.ok.0) in n) size

pub overflow_sub-handle : goal.overflow_sub-handle
overflow_sub-handle g c =
    let at = goal.at.overflow_sub-handle g c in
    let v = (new_ends g at.After-append-values (old_ends g at.Start)).values_at in
    omega arith

pub merge-handle-requires : goal.merge-handle-requires
merge-handle-requires g c =
    let m : BlockHandle = c.args.handle.now in
    let a : m.summary.count ≡ length (block_points_at c.args.bytes.now.items m) = ap (λ (a : Aggregate). a.count) c.requires.marked.summary_is ∙ count_of_fold (block_points_at c.args.bytes.now.items m) in
    let b : c.single.result.count ≡ 1 = ap (λ (a : Aggregate). a.count) c.single.ensures in
    let d = c.requires.marked.count_is in
    let few = c.requires.few in
    omega arith

pub returns-clause-block : goal.returns-clause-block
returns-clause-block g c =
    let at = goal.at.returns-clause-block g c in
    let bytes : List ℕ = c.args.bytes.now.items in
    let new : List ℕ = c.append-values.new.bytes.items in
    let m : BlockHandle = c.args.handle.now in
    let block = new_ends g at.After-append-values (old_ends g at.Start) in
    let end : c.len-handle.result ≡ length new = omega (arith, c.len-handle.ensures, c.append-values.new.bytes.ok.0) in
    let index : c.append-values.result ≡ m.start + (c.append-values.result - m.start) = let v = block.values_at in omega arith in
    let fits : SFits w64 c.args.point.now.1 = search rules in
    let one = c.single.ensures ∙ ap (aggregate_of_one c.args.point.now.0) (to_z-of_z fits) in
    let spaced = c.spacing_after-spacing.ensures (block_points_at bytes m) c.args.point.now.1 c.requires.marked.count_is c.requires.marked.last_is c.requires.marked.spaced in
    let n : BlockHandle = record m { values = c.append-values.result - m.start; end = c.len-handle.result; count = m.count + 1; last = c.args.point.now.0; spacing = c.spacing_after-spacing.result; summary = c.merge-handle.result } in
    grown_block bytes new m n c.args.point.now c.requires.marked (subst (λ v. EndsInBlock new m.start v c.args.point.now.0 (block_points_at bytes m ++ c.args.point.now ∷ [])) index block) refl end refl refl spaced (c.merge-handle.ensures ∙ ap (merged m.summary) one)
