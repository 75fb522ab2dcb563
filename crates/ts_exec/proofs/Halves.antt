-- RowParts: a sum of values of 64 bits from their wrapped sum and the sum of their high halves.
use Rattle.std.proofs.Common.{◌≡◌, ℕ, ◌+◌, ◌*◌, ◌<◌, ◌≤◌, ◌^◌, ℤ, pos, negsuc, neg_ℤ, ◌+ℤ◌, ◌-ℤ◌, ◌*ℤ◌, ◌≤ℤ◌, ◌<ℤ◌, List, [], ◌∷◌, ◌++◌, length, get_or, take, sym, ◌∙◌, ap, arith, FitsSigned, w64, to_z, of_z, to_z-of_z}
use Rattle.std.specs.Int.{w128, int_shr, int_wrap}
use Rattle.std.proofs.lemmas.Int.{ints, fits_signed_from_abs, int_wrap_fits, int_wrap-add_left, int_wrap-sub_right}
use Rattle.std.proofs.lemmas.Nat.{div-add-mod'}
use Rattle.std.proofs.lemmas.List.{take_more}
use Rattle.ts_core.specs.aggregates.Aggregates.{sum_of_points}

-- the sum of n values of 64 bits, and the sum of their high halves
pub record AreHalved (n : ℕ) (sum high : ℤ) : Type 0 where
  pub at_least : (high *ℤ pos 4294967296) ≤ℤ sum
  pub at_most : sum ≤ℤ (high *ℤ pos 4294967296 +ℤ pos (n * 4294967295))
  pub least : neg_ℤ (pos (n * 2147483648)) ≤ℤ high
  pub most : high ≤ℤ pos (n * 2147483647)

halved-one : (v : ℤ) → neg_ℤ (pos 9223372036854775808) ≤ℤ v → v <ℤ pos 9223372036854775808 → AreHalved 1 v (int_shr v 32)
halved-one (pos a) low high =
    let split = div-add-mod' a 4294967296 in
    record { at_least = omega (arith, ints); at_most = omega (arith, ints); least = omega (arith, ints); most = omega (arith, ints) }
halved-one (negsuc a) low high =
    let split = div-add-mod' a 4294967296 in
    record { at_least = omega (arith, ints); at_most = omega (arith, ints); least = omega (arith, ints); most = omega (arith, ints) }

pub halved-more : (n : ℕ) (s h v : ℤ) → AreHalved n s h → FitsSigned w64 v → AreHalved (n + 1) (s +ℤ v) (h +ℤ int_shr v 32)
halved-more n s h v all fits =
    let one = halved-one v (omega (arith, ints)) (omega (arith, ints)) in
    let a = all.at_least in
    let b = all.at_most in
    let c = all.least in
    let d = all.most in
    let e = one.at_least in
    let f = one.at_most in
    let g = one.least in
    let i = one.most in
    record { at_least = omega (arith, ints); at_most = omega (arith, ints); least = omega (arith, ints); most = omega (arith, ints) }

-- for at most 2^31 values, the sum of their high halves fits 64 bits, and so does that of their low halves
module _ (n : ℕ) (s h : ℤ) (all : AreHalved n s h) where
  pub halved-fits : n ≤ 2 ^ 31 → FitsSigned w64 h
  halved-fits few =
      let least = all.least in
      let most = all.most in
      fits_signed_from_abs w64 h (omega (arith, ints))

  pub low-half : n ≤ 2 ^ 31 → FitsSigned w64 (s -ℤ h *ℤ pos 4294967296)
  low-half few =
      let low = all.at_least in
      let high = all.at_most in
      fits_signed_from_abs w64 (s -ℤ h *ℤ pos 4294967296) (omega (arith, ints))

-- the wrapped sum is enough for the sum of the low halves
pub low-wrapped : (s k : ℤ) → FitsSigned w64 (s -ℤ k) → int_wrap w64 (int_wrap w64 s -ℤ int_wrap w64 k) ≡ s -ℤ k
low-wrapped s k fits = int_wrap-sub_right w64 (int_wrap w64 s) k ∙ int_wrap-add_left w64 s (neg_ℤ k) ∙ int_wrap_fits w64 (s -ℤ k) fits

-- the high half of one more value is added without overflow
pub high-added : (n : ℕ) (s h v : ℤ) → AreHalved n s h → FitsSigned w64 v → n < 2 ^ 31 → to_z w64 (of_z w64 (h +ℤ to_z w64 (of_z w64 (int_shr (to_z w64 (of_z w64 v)) 32)))) ≡ h +ℤ int_shr v 32
high-added n s h v all fits few =
    let one = halved-one v (omega (arith, ints)) (omega (arith, ints)) in
    let half_fits : FitsSigned w64 (int_shr v 32) = halved-fits 1 v (int_shr v 32) one (omega arith) in
    let sum_fits : FitsSigned w64 (h +ℤ int_shr v 32) = halved-fits (n + 1) (s +ℤ v) (h +ℤ int_shr v 32) (halved-more n s h v all fits) (omega arith) in
    ap (λ z. to_z w64 (of_z w64 (h +ℤ to_z w64 (of_z w64 (int_shr z 32))))) (to_z-of_z fits)
    ∙ ap (λ z. to_z w64 (of_z w64 (h +ℤ z))) (to_z-of_z half_fits)
    ∙ to_z-of_z sum_fits

-- the halves are joined without overflow
pub halves-joined : (n : ℕ) (s h : ℤ) → AreHalved n s h → n ≤ 2 ^ 31 → to_z w128 (of_z w128 (to_z w128 (of_z w128 (to_z w128 (of_z w128 h) *ℤ pos 4294967296)) +ℤ to_z w128 (of_z w128 (s -ℤ h *ℤ pos 4294967296)))) ≡ s
halves-joined n s h all few =
    let k : ℤ = h *ℤ pos 4294967296 in
    let low = all.at_least in
    let high = all.at_most in
    let least = all.least in
    let most = all.most in
    let h_fits : FitsSigned w128 h = fits_signed_from_abs w128 h (omega (arith, ints)) in
    let k_fits : FitsSigned w128 k = fits_signed_from_abs w128 k (omega (arith, ints)) in
    let rest_fits : FitsSigned w128 (s -ℤ k) = fits_signed_from_abs w128 (s -ℤ k) (omega (arith, ints)) in
    let joined : k +ℤ (s -ℤ k) ≡ s = omega (arith, ints) in
    let s_fits : FitsSigned w128 s = fits_signed_from_abs w128 s (omega (arith, ints)) in
    ap (λ z. to_z w128 (of_z w128 (to_z w128 (of_z w128 (z *ℤ pos 4294967296)) +ℤ to_z w128 (of_z w128 (s -ℤ k))))) (to_z-of_z h_fits)
    ∙ ap (λ z. to_z w128 (of_z w128 (z +ℤ to_z w128 (of_z w128 (s -ℤ k))))) (to_z-of_z k_fits)
    ∙ ap (λ z. to_z w128 (of_z w128 (k +ℤ z))) (to_z-of_z rest_fits)
    ∙ ap (λ z. to_z w128 (of_z w128 z)) joined
    ∙ to_z-of_z s_fits

sum-append : (xs ys : List (ℤ × ℤ)) → sum_of_points (xs ++ ys) ≡ sum_of_points xs +ℤ sum_of_points ys
sum-append [] ys = omega (arith, ints)
sum-append (x ∷ xs) ys =
    let rest = sum-append xs ys in
    omega (arith, ints)

pub sum-more : (ps : List (ℤ × ℤ)) (i : ℕ) (p : ℤ × ℤ) → i < length ps → p ≡ get_or ps i p → sum_of_points (take (i + 1) ps) ≡ sum_of_points (take i ps) +ℤ p.1
sum-more ps i p within read =
    let next : take (i + 1) ps ≡ take i ps ++ p ∷ [] = take_more ps i p within ∙ ap (λ (q : ℤ × ℤ). take i ps ++ q ∷ []) (sym read) in
    let last = sum-append (take i ps) (p ∷ []) in
    ap sum_of_points next ∙ omega (arith, ints)
