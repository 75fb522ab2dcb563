use Rattle.std.proofs.Common.{rules, ◌≡◌, ◌∙◌, ap, sym, subst, ℕ, ℤ, List, int_cmp, SFits, w64, to_z-of_z, arith}
use Rattle.std.specs.FinMap.{put}
use Rattle.ts_core.specs.aggregates.Aggregates.{Aggregate, aggregate_of_one, merged}
use Rattle.ts_block.specs.Blocks.{IsBlockOf}
use Rattle.ts_block.specs.Splicing.{IsBlockWith}
use Rattle.ts_raw.specs.CodedPoints.{block_text_at, block_points_at}
use Rattle.ts_raw.proofs.SplicedLemmas.{added_summary, added_count, summary_count}
use Rattle.ts_raw.proofs.rewriting.copy_with.Goals as goal

pub merge-summary-requires : goal.merge-summary-requires
merge-summary-requires g c =
    let a = summary_count c.args.bytes.now.items c.args.handle.now c.requires.marked in
    let b : c.single.result.count ≡ 1 = ap (λ (a : Aggregate). a.count) c.single.ensures in
    let few = c.requires.few in
    omega arith

pub push_text-requires : goal.push_text-requires
push_text-requires g c =
    let p : ℤ × ℤ = c.args.point.now in
    let points : List (ℤ × ℤ) = block_points_at c.args.bytes.now.items c.args.handle.now in
    let text : c.text_of-block.result.now ≡ block_text_at c.args.bytes.now.items c.args.handle.now = c.text_of-block.ensures ∙ ap (λ (x : List ℕ). block_text_at x c.args.handle.now) c.as_slice.ensures.value in
    let w : IsBlockWith points p c.in_ok-text.text.items c.in_ok-text.values c.in_ok-text.more = c.in_ok-text.ensures points (subst (λ (x : List ℕ). IsBlockOf x points) (sym text) c.requires.marked.block) in
    let new : List (ℤ × ℤ) = put int_cmp p.0 p.1 points in
    let added = w.added c.if-more.true in
    let fits : SFits w64 p.1 = search rules in
    let one : c.single.result ≡ aggregate_of_one p.0 p.1 = c.single.ensures ∙ ap (aggregate_of_one p.0) (to_z-of_z fits) in (
      new,
      subst (λ (x : List ℕ). IsBlockOf x new) (sym c.as_slice-then-more.ensures.value) w.block,
      w.values_at,
      added_count points new p c.args.handle.now.count added c.requires.marked.count_is,
      c.requires.marked.last_is ∙ sym w.last_is,
      c.merge-summary.ensures ∙ ap (merged c.args.handle.now.summary) one ∙ added_summary points new p c.args.handle.now.summary added c.requires.marked.summary_is,
    )
