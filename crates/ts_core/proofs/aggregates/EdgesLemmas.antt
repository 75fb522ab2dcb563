-- Bounds of a bucket, clamped: the same valid times are before them.
use Rattle.std.proofs.Common.{◌≡◌, ◌∙◌, sym, ap, ℤ, pos, negsuc, ◌^◌, ◌+ℤ◌, ◌-ℤ◌, ◌≤ℤ◌, ◌<ℤ◌, int_lt, arith, SFits, w64}
use Rattle.std.proofs.lemmas.Int.{ints}
use Rattle.std.specs.Int.{w128, saturate_signed}
use Rattle.ts_core.specs.aggregates.Edges.{IsEdgeAt}
use Rattle.ts_core.specs.facts.Times.{IsTime}
use Rattle.ts_core.proofs.lists.Comparisons.{lt_from, lt_true, same_bool}

-- t is far from the bounds of an `i128`
record IsInner (t : ℤ) : Type 0 where
  low : negsuc (2 ^ 126) ≤ℤ t
  high : t ≤ℤ pos (2 ^ 126)

kept_before : (t z : ℤ) → IsInner t → t <ℤ saturate_signed w128 z → t <ℤ z
kept_before t (pos n) h l = let a = h.low in let b = h.high in omega (arith, ints)
kept_before t (negsuc n) h l = let a = h.low in let b = h.high in omega (arith, ints)

still_before : (t z : ℤ) → IsInner t → t <ℤ z → t <ℤ saturate_signed w128 z
still_before t (pos n) h l = let a = h.low in let b = h.high in omega (arith, ints)
still_before t (negsuc n) h l = let a = h.low in let b = h.high in omega (arith, ints)

-- where a bucket starts, for moments that the offset leaves far from the bounds
abbrev saturated_start : ℤ → ℤ → ℤ
saturated_start p o = saturate_signed w128 (saturate_signed w128 p +ℤ o)

-- clamped, it is before the same moments
clamped : (t z : ℤ) → IsInner t → int_lt t (saturate_signed w128 z) ≡ int_lt t z
clamped t z h = same_bool _ _ (λ e. lt_true t z (kept_before t z h (lt_from _ _ e))) (λ e. lt_true _ _ (still_before t z h (lt_from t z e)))

moved : (t z o : ℤ) → int_lt t (z +ℤ o) ≡ int_lt (t -ℤ o) z
moved t z o = same_bool _ _ (λ e. let l = lt_from t (z +ℤ o) e in lt_true (t -ℤ o) z (omega (arith, ints))) (λ e. let l = lt_from (t -ℤ o) z e in lt_true t (z +ℤ o) (omega (arith, ints)))

start_alike : (t p o : ℤ) → IsInner t → IsInner (t -ℤ o) → int_lt t (saturated_start p o) ≡ int_lt t (p +ℤ o)
start_alike t p o h m = clamped t (saturate_signed w128 p +ℤ o) h ∙ moved t (saturate_signed w128 p) o ∙ clamped (t -ℤ o) p m ∙ sym (moved t p o)

module _ (t o i : ℤ) (v : IsTime t) (f : SFits w64 o) (g : SFits w64 i) where
  inner : IsInner t
  inner = let a = v.not_before in let b = v.not_after in record { low = omega (arith, ints); high = omega (arith, ints) }

  inner_less : IsInner (t -ℤ o)
  inner_less = let a = v.not_before in let b = v.not_after in record { low = omega (arith, ints); high = omega (arith, ints) }

  inner_both : IsInner ((t -ℤ i) -ℤ o)
  inner_both = let a = v.not_before in let b = v.not_after in record { low = omega (arith, ints); high = omega (arith, ints) }

pub start_edge : (p o : ℤ) → SFits w64 o → IsEdgeAt (p +ℤ o) (saturated_start p o)
start_edge p o f t v = start_alike t p o (inner t o o v f f) (inner_less t o o v f f)

pub end_edge : (p o i : ℤ) → SFits w64 o → SFits w64 i → IsEdgeAt ((p +ℤ i) +ℤ o) (saturate_signed w128 (saturated_start p o +ℤ i))
end_edge p o i f g t v =
    clamped t (saturated_start p o +ℤ i) (inner t o i v f g) ∙ moved t (saturated_start p o) i ∙ start_alike (t -ℤ i) p o (inner_less t i o v g f) (inner_both t o i v f g)
    ∙ sym (moved t (p +ℤ o) i) ∙ ap (int_lt t) (let e : (p +ℤ o) +ℤ i ≡ (p +ℤ i) +ℤ o = omega (arith, ints) in e)
