use Rattle.std.proofs.Common.{rules, ◌≡◌, ◌+◌, ◌%◌, ◌*◌, ◌^◌, ◌<◌, ◌≤◌, ℕ, ◌*ℤ◌, ◌-ℤ◌, pos, ℤ, ◌+ℤ◌, FitsSigned, w64, to_z, of_z, take, List, subst, sym, ◌∙◌, ap, arith}
use Rattle.std.specs.Int.{w128, int_shr, int_wrap}
use Rattle.std.proofs.lemmas.Int.{wrapping_add_onto, wrapping_sub-bits, wrapping_mul_onto, int_wrap-add_left}
use Rattle.std.proofs.lemmas.List.{take_all}
use Rattle.ts_core.specs.aggregates.Aggregates.{sum_of_points}
use Rattle.ts_exec.proofs.Halves.{AreHalved, halved-more, high-added, low-half, low-wrapped, halves-joined, sum-more}
use Rattle.ts_exec.proofs.fold.sum_of_values.Goals as goal

pub loop-point-preserved : goal.loop-point-preserved
loop-point-preserved c =
    let i : ℕ = c.loop-point.point-index in
    let ps : List (ℤ × ℤ) = c.args.points.now in
    let s : ℤ = sum_of_points (take i ps) in
    let h : ℤ = to_z w64 c.loop-point.high-bits in
    let v : ℤ = c.point-item.result.1 in
    let fits : FitsSigned w64 v = search rules in
    let few = c.requires.few in
    let within = c.loop-point-test.true in
    let small : c.loop-point.wrapped-bits < 2 ^ 64 = search rules in
    let next = sum-more ps i c.point-item.result within c.point-item.is in
    let all : AreHalved i s h = c.loop-point.invariant.1 in
    let more : AreHalved (i + 1) (s +ℤ v) (h +ℤ int_shr v 32) = halved-more i s h v all fits in
    let added = high-added i s h v all fits (omega arith) in
    let wrapped : to_z w64 ((c.loop-point.wrapped-bits + of_z w64 v) % 18446744073709551616) ≡ int_wrap w64 (s +ℤ v) =
    wrapping_add_onto w64 c.loop-point.wrapped-bits v small fits
    ∙ ap (λ z. int_wrap w64 (z +ℤ v)) c.loop-point.invariant.0 ∙ int_wrap-add_left w64 s v in
    let total : ℤ = sum_of_points (take (i + 1) ps) in
    let kept : AreHalved (i + 1) total (h +ℤ int_shr v 32) = subst (λ z. AreHalved (i + 1) z (h +ℤ int_shr v 32)) (sym next) more in
    (wrapped ∙ ap (int_wrap w64) (sym next), subst (AreHalved (i + 1) total) (sym added) kept)

pub returns-clause-value : goal.returns-clause-value
returns-clause-value c =
    let i : ℕ = c.loop-point.point-index in
    let ps : List (ℤ × ℤ) = c.args.points.now in
    let s : ℤ = sum_of_points ps in
    let h : ℤ = to_z w64 c.loop-point.high-bits in
    let few = c.requires.few in
    let full : take i ps ≡ ps = take_all i ps (omega (arith, c.loop-point-test.false)) in
    let all : AreHalved i s h = subst (λ (qs : List (ℤ × ℤ)). AreHalved i (sum_of_points qs) h) full c.loop-point.invariant.1 in
    let start : to_z w64 c.loop-point.wrapped-bits ≡ int_wrap w64 s = subst (λ (qs : List (ℤ × ℤ)). to_z w64 c.loop-point.wrapped-bits ≡ int_wrap w64 (sum_of_points qs)) full c.loop-point.invariant.0 in
    let end = c.loop-point.auto.point-index-end in
    let short : i ≤ 2 ^ 31 = omega arith in
    let small : c.loop-point.wrapped-bits < 2 ^ 64 = search rules in
    let high_small : c.loop-point.high-bits < 2 ^ 64 = search rules in
    let raised : ℕ = (c.loop-point.high-bits * 4294967296) % 18446744073709551616 in
    let raised_small : raised < 2 ^ 64 = omega arith in
    let base_fits : FitsSigned w64 (pos 4294967296) = record { sfits = omega arith } in
    let low : c.from-2.result ≡ s -ℤ h *ℤ pos 4294967296 =
    c.from-2.ensures ∙ wrapping_sub-bits w64 c.loop-point.wrapped-bits raised small raised_small
    ∙ ap (λ z. int_wrap w64 (to_z w64 c.loop-point.wrapped-bits -ℤ z)) (wrapping_mul_onto w64 c.loop-point.high-bits (pos 4294967296) high_small base_fits)
    ∙ ap (λ z. int_wrap w64 (z -ℤ int_wrap w64 (h *ℤ pos 4294967296))) start
    ∙ low-wrapped s (h *ℤ pos 4294967296) (low-half i s h all short) in
    let joined : ℤ → ℤ → ℤ = λ x y. to_z w128 (of_z w128 (to_z w128 (of_z w128 (to_z w128 (of_z w128 x) *ℤ pos 4294967296)) +ℤ to_z w128 (of_z w128 y))) in
    ap (λ x. joined x c.from-2.result) c.from.ensures ∙ ap (joined h) low ∙ halves-joined i s h all short
