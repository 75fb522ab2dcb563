use Rattle.std.proofs.Common.{rules, ◌≡◌, ◌≤ℤ◌, ℤ, List, ◌∷◌, ◌∙◌, ap, sym, subst, arith, int_cmp, int_le, is_ge, true, false}
use Rattle.std.proofs.lemmas.Int.{ints}
use Rattle.ts_core.specs.aggregates.Aggregates.{merged, aggregate_of_one, aggregate_of_points}
use Rattle.ts_store.specs.rollup.LivePoints.{points_since}
use Rattle.ts_store.proofs.rollup.RollupSeriesPoints.{since_here, since_before, IsMerging, merging_last, merging_fits, merging_next}
use Rattle.ts_store.proofs.rollup.live_parts.with_points_since.Goals as goal

late_of : (t mark : ℤ) → is_ge (int_cmp t mark) ≡ true → mark ≤ℤ t
late_of t mark h = grind (arith, ints, h)

pub merge-all-requires : goal.merge-all-requires
merge-all-requires c =
    let t : ℤ = c.in-Some.time in
    let v : ℤ = c.in-Some.value in
    let part : c.single.result ≡ aggregate_of_one t v = search rules in
    let left : c.loop-time.time-iterator ≡ (t, v) ∷ c.next.new.self = search rules in
    let since = ap (points_since c.args.mark) left ∙ since_here c.args.mark (t, v) c.next.new.self (late_of t c.args.mark (sym c.ge.ensures ∙ c.if-ge.true)) in
    merging_fits _ _ _ _ _ _ since c.loop-time.invariant _ part

pub loop-time-preserved-then-ge : goal.loop-time-preserved-then-ge
loop-time-preserved-then-ge c =
    let t : ℤ = c.in-Some.time in
    let v : ℤ = c.in-Some.value in
    let part : c.single.result ≡ aggregate_of_one t v = search rules in
    let left : c.loop-time.time-iterator ≡ (t, v) ∷ c.next.new.self = search rules in
    let since = ap (points_since c.args.mark) left ∙ since_here c.args.mark (t, v) c.next.new.self (late_of t c.args.mark (sym c.ge.ensures ∙ c.if-ge.true)) in
    merging_next _ _ _ _ _ _ since c.loop-time.invariant _ part _ c.merge-all.ensures

pub loop-time-preserved : goal.loop-time-preserved
loop-time-preserved c =
    let t : ℤ = c.in-Some.time in
    let v : ℤ = c.in-Some.value in
    let early : int_le c.args.mark t ≡ false = search rules in
    let left : c.loop-time.time-iterator ≡ (t, v) ∷ c.next.new.self = search rules in
    subst (λ (ps : List (ℤ × ℤ)). IsMerging (merged c.args.total (aggregate_of_points (points_since c.args.mark c.args.points))) c.loop-time.all ps)
    (ap (points_since c.args.mark) left ∙ since_before c.args.mark (t, v) c.next.new.self early) c.loop-time.invariant

pub returns : goal.returns
returns c = merging_last _ _ _ (ap (points_since c.args.mark) c.in-None.ensures.steps.0) c.loop-time.invariant
