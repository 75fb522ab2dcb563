-- The empty aggregate and that of one point are sound, and merging preserves soundness. (Own rules.)
use Rattle.std.proofs.Common.{◌≡◌, ℕ, zero, suc, ◌+◌, ◌*◌, ◌≤◌, ℤ, pos, negsuc, neg_ℤ, unsigned_abs, ◌+ℤ◌, ◌*ℤ◌, ◌≤ℤ◌, refl, sym, ◌∙◌, ap, subst, arith, zero-add, Option, Some, None, MatchOption, int_cmp}
use Rattle.std.specs.Cmp.{int_cmp_total}
use Rattle.std.specs.Int.Signed.{≤ℤ_refl}
use Rattle.std.proofs.lemmas.Int.{ints}
use Rattle.std.proofs.lemmas.Map.Lookups.{exact_signed}
use Rattle.std.proofs.Math.IntN.{suc_ℤ-*ℤ, zero-*ℤ, +ℤ_idl, pos-*ℤ-pos, pos-*ℤ-negsuc}
use Rattle.ts_core.specs.declared.aggregates.aggregate.Extremes.{Extremes}
use Rattle.ts_core.specs.aggregates.Orders.{lesser, down_cmp}
use Rattle.ts_core.specs.aggregates.OrderLaws.{lesser-left, lesser-right, exact_down, down_total, le_from_IsUpto}
use Rattle.ts_core.specs.aggregates.Remainders.{PossibleLaws}
use Rattle.ts_core.specs.aggregates.Aggregates.{Aggregate, empty_aggregate, aggregate_of_one, extremes_of_both, merged_extremes, merged, IsSpread, IsSound}

-- ---- products

pub one_more : (n : ℕ) (x : ℤ) → pos (suc n) *ℤ x ≡ pos n *ℤ x +ℤ x
one_more n x = suc_ℤ-*ℤ (pos n) x

pub times_le : (n : ℕ) (x y : ℤ) → x ≤ℤ y → (pos n *ℤ x) ≤ℤ (pos n *ℤ y)
times_le zero x y h = rw (zero-*ℤ x, zero-*ℤ y) (≤ℤ_refl (pos 0))
times_le (suc n) x y h =
    let ih = times_le n x y h in
    rw (one_more n x, one_more n y) (omega (arith, ints))

pub times_sum : (m n : ℕ) (x : ℤ) → pos (m + n) *ℤ x ≡ pos m *ℤ x +ℤ pos n *ℤ x
times_sum zero n x =
    ap (λ k. pos k *ℤ x) (zero-add n) ∙ sym (ap (λ z. z +ℤ pos n *ℤ x) (zero-*ℤ x) ∙ +ℤ_idl (pos n *ℤ x))
times_sum (suc m) n x =
    let ih = times_sum m n x in
    let e : suc m + n ≡ suc (m + n) = omega arith in
    ap (λ k. pos k *ℤ x) e ∙ one_more (m + n) x ∙ (let f = one_more m x in omega (arith, ints))

-- ---- two spreads

low_part : (m n : ℕ) (s t x y z : ℤ)
    → z ≤ℤ x → z ≤ℤ y → (pos m *ℤ x) ≤ℤ s → (pos n *ℤ y) ≤ℤ t → (pos (m + n) *ℤ z) ≤ℤ (s +ℤ t)
low_part m n s t x y z h k p q =
    let a = times_le m z x h in
    let b = times_le n z y k in
    let e = times_sum m n z in
    omega (arith, ints)

high_part : (m n : ℕ) (s t x y z : ℤ)
    → x ≤ℤ z → y ≤ℤ z → s ≤ℤ (pos m *ℤ x) → t ≤ℤ (pos n *ℤ y) → (s +ℤ t) ≤ℤ (pos (m + n) *ℤ z)
high_part m n s t x y z h k p q =
    let a = times_le m x z h in
    let b = times_le n y z k in
    let e = times_sum m n z in
    omega (arith, ints)

IsSpread-both : (m n : ℕ) (s t : ℤ) (d e : Extremes)
    → IsSpread m s d → IsSpread n t e → IsSpread (m + n) (s +ℤ t) (extremes_of_both d e)
IsSpread-both m n s t d e f g = record {
  some = (let a = f.some in omega arith);
  at_least = low_part m n s t d.min e.min (lesser int_cmp d.min e.min)
      (le_from_IsUpto _ _ (lesser-left int_cmp_total exact_signed d.min e.min))
      (le_from_IsUpto _ _ (lesser-right int_cmp_total exact_signed d.min e.min)) f.at_least g.at_least;
  at_most = high_part m n s t d.max e.max (lesser down_cmp d.max e.max)
      (le_from_IsUpto _ _ (lesser-left down_total exact_down d.max e.max))
      (le_from_IsUpto _ _ (lesser-right down_total exact_down d.max e.max)) f.at_most g.at_most;
}

same_spread : (m n : ℕ) (s t : ℤ) (e : Extremes) → m ≡ n → s ≡ t → IsSpread m s e → IsSpread n t e
same_spread m n s t e p q h = subst (λ z. IsSpread n z e) q (subst (λ k. IsSpread k s e) p h)

sound_parts : (m n : ℕ) (s t : ℤ) (d e : Option Extremes)
    → MatchOption d ((m ≡ 0) × (s ≡ pos 0)) (IsSpread m s) → MatchOption e ((n ≡ 0) × (t ≡ pos 0)) (IsSpread n t)
    → MatchOption (merged_extremes d e) ((m + n ≡ 0) × (s +ℤ t ≡ pos 0)) (IsSpread (m + n) (s +ℤ t))
sound_parts m n s t None None h k =
    (let a = h.0 in let b = k.0 in omega arith, let a = h.1 in let b = k.1 in omega (arith, ints))
sound_parts m n s t None (Some e) h k =
    same_spread n (m + n) t (s +ℤ t) e (let a = h.0 in omega arith) (let a = h.1 in omega (arith, ints)) k
sound_parts m n s t (Some d) None h k =
    same_spread m (m + n) s (s +ℤ t) d (let a = k.0 in omega arith) (let a = k.1 in omega (arith, ints)) h
sound_parts m n s t (Some d) (Some e) h k = IsSpread-both m n s t d e h k

pub parts_of_sound : (a : Aggregate)
    → IsSound a → MatchOption a.extremes ((a.count ≡ 0) × (a.sum ≡ pos 0)) (IsSpread a.count a.sum)
parts_of_sound a h = elim a.extremes as (λ e. MatchOption e (a ≡ empty_aggregate) (IsSpread a.count a.sum)
    → MatchOption e ((a.count ≡ 0) × (a.sum ≡ pos 0)) (IsSpread a.count a.sum)) [
      | None ↦ λ e. (ap (λ (x : Aggregate). x.count) e, ap (λ (x : Aggregate). x.sum) e)
      | Some d ↦ λ s. s
    ] h

sound_of_parts : (m : ℕ) (s : ℤ) (e : Option Extremes)
    → MatchOption e ((m ≡ 0) × (s ≡ pos 0)) (IsSpread m s) → IsSound (record { count = m; sum = s; extremes = e })
sound_of_parts m s None h = let p = h.0 in let q = h.1 in λ i. record { count = p i; sum = q i; extremes = None }
sound_of_parts m s (Some d) h = h

pub IsSound-merged : (a b : Aggregate) → IsSound a → IsSound b → IsSound (merged a b)
IsSound-merged a b h k =
    sound_of_parts (a.count + b.count) (a.sum +ℤ b.sum) (merged_extremes a.extremes b.extremes)
    (sound_parts a.count b.count a.sum b.sum a.extremes b.extremes (parts_of_sound a h) (parts_of_sound b k))

pub IsSound-one : (t v : ℤ) → IsSound (aggregate_of_one t v)
IsSound-one t v =
    let e : pos 1 *ℤ v ≡ v = one_more 0 v ∙ ap (λ z. z +ℤ v) (zero-*ℤ v) ∙ +ℤ_idl v in
    record { some = omega arith; at_least = rw e (≤ℤ_refl v); at_most = rw e (≤ℤ_refl v) }

-- the same, with the sum and the extremes as equations
pub IsSound-parts : (a b : Aggregate) (s : ℤ) (x : Option Extremes)
    → IsSound a → IsSound b → s ≡ a.sum +ℤ b.sum → x ≡ merged_extremes a.extremes b.extremes
    → IsSound (record { count = a.count + b.count; sum = s; extremes = x })
IsSound-parts a b s x h k p q =
    subst IsSound
    (λ i. record { count = a.count + b.count; sum = sym p i; extremes = sym q i }) (IsSound-merged a b h k)

pub merged-parts : (a b : Aggregate) (s : ℤ) (x : Option Extremes)
    → s ≡ a.sum +ℤ b.sum → x ≡ merged_extremes a.extremes b.extremes
    → record { count = a.count + b.count; sum = s; extremes = x } ≡ merged a b
merged-parts a b s x p q = λ i. record { count = a.count + b.count; sum = p i; extremes = q i }

pub sound_laws : PossibleLaws IsSound empty_aggregate aggregate_of_one merged
sound_laws = record { of_none = refl; of_one = IsSound-one; of_both = IsSound-merged }

-- a sound aggregate without points is empty
pub empty_by_count : (a : Aggregate) → IsSound a → a.count ≡ 0 → a ≡ empty_aggregate
empty_by_count a s e =
    elim a.extremes as (λ x. MatchOption x (a ≡ empty_aggregate) (IsSpread a.count a.sum) → a ≡ empty_aggregate) [
      | None ↦ λ h. h
      | Some x ↦ λ h. absurd (let n = h.some in omega arith)
    ] s

-- The sum of n values from -2^63 to 2^63 is between -n * 2^63 and n * 2^63. Values of 64 bits end at 2^63 - 1.
pub spread_bound : (n : ℕ) (s : ℤ) (e : Extremes) → IsSpread n s e
    → negsuc 9223372036854775807 ≤ℤ e.min → e.max ≤ℤ pos 9223372036854775808 → unsigned_abs s ≤ n * 9223372036854775808
spread_bound n s e h low high =
    let a = times_le n (negsuc 9223372036854775807) e.min low in
    let b = times_le n e.max (pos 9223372036854775808) high in
    let c : pos n *ℤ negsuc 9223372036854775807 ≡ neg_ℤ (pos (n * 9223372036854775808)) =
    pos-*ℤ-negsuc n 9223372036854775807 in
    let d : pos n *ℤ pos 9223372036854775808 ≡ pos (n * 9223372036854775808) = pos-*ℤ-pos n 9223372036854775808 in
    let p = h.at_least in
    let q = h.at_most in
    omega (arith, ints)
