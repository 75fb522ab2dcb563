use Rattle.std.proofs.Common.{rules, ◌≡◌, ◌+◌, ◌*◌, ◌^◌, ◌≤◌, ℕ, ℤ, ◌+ℤ◌, unsigned_abs, SFits, to_z, of_z, to_z-of_z, arith, w64, ◌∙◌, ap, ap₂, Some, int_cmp}
use Rattle.std.specs.Int.{w128}
use Rattle.std.proofs.lemmas.Int.{ints, fits_signed_from_abs}
use Rattle.std.specs.declared.cmp.Ordering.{Ordering}
use Rattle.ts_core.specs.aggregates.Orders.{lesser, down_cmp}
use Rattle.ts_core.specs.aggregates.OrderLaws.{min-lesser, max-lesser}
use Rattle.ts_core.specs.aggregates.Aggregates.{Aggregate, merged, IsSpread}
use Rattle.ts_core.specs.aggregates.SoundLaws.{IsSound-parts, merged-parts, spread_bound}
use Rattle.ts_exec.specs.RowParts.{bounds}
use Rattle.ts_exec.proofs.fold.Bounded.merge.Goals as goal

-- the sum of n values of 64 bits
sum_bound : (n : ℕ) (s a b : ℤ) → IsSpread n s (bounds a b) → SFits w64 a → SFits w64 b → unsigned_abs s ≤ n * 9223372036854775808
sum_bound n s a b h p q = spread_bound n s (bounds a b) h (omega (arith, ints)) (omega (arith, ints))

sum_fits : (n : ℕ) (s : ℤ) → n ≤ 2 ^ 62 → unsigned_abs s ≤ n * 9223372036854775808 → SFits w128 s
sum_fits n s few h = fits_signed_from_abs w128 s (omega arith)

both_fit : (m n : ℕ) (s t : ℤ) → m + n ≤ 2 ^ 62 → unsigned_abs s ≤ m * 9223372036854775808 → unsigned_abs t ≤ n * 9223372036854775808 → SFits w128 (s +ℤ t)
both_fit m n s t few h k = sum_fits (m + n) (s +ℤ t) few (omega (arith, ints))

plain_sum : (m n : ℕ) (s t : ℤ) → m + n ≤ 2 ^ 62 → unsigned_abs s ≤ m * 9223372036854775808 → unsigned_abs t ≤ n * 9223372036854775808
    → to_z w128 (of_z w128 s) +ℤ to_z w128 (of_z w128 t) ≡ s +ℤ t
plain_sum m n s t few h k = ap₂ (λ x y. x +ℤ y) (to_z-of_z (sum_fits m s (omega arith) h)) (to_z-of_z (sum_fits n t (omega arith) k))

plain : (R : ℤ → ℤ → Ordering) (x y z : ℤ) → SFits w64 x → SFits w64 y → SFits w64 z → z ≡ lesser R (to_z w64 (of_z w64 x)) (to_z w64 (of_z w64 y)) → to_z w64 (of_z w64 z) ≡ lesser R x y
plain R x y z a b c is = to_z-of_z c ∙ is ∙ ap₂ (lesser R) (to_z-of_z a) (to_z-of_z b)

pub overflow_add-result-2 : goal.overflow_add-result-2
overflow_add-result-2 c =
    let m : ℕ = c.self.inside.count in
    let n : ℕ = c.other.inside.count in
    let s : ℤ = c.self.inside.sum in
    let t : ℤ = c.other.inside.sum in
    let few : m + n ≤ 2 ^ 62 = search rules in
    let h : unsigned_abs s ≤ m * 9223372036854775808 = sum_bound m s _ _ c.self.invariant.1 (search rules) (search rules) in
    let k : unsigned_abs t ≤ n * 9223372036854775808 = sum_bound n t _ _ c.other.invariant.1 (search rules) (search rules) in
    rw (plain_sum m n s t few h k) (both_fit m n s t few h k)

abbrev first : goal.After-max → Aggregate
first c = record { count = c.self.inside.count; sum = c.self.inside.sum; extremes = Some (bounds c.self.inside.min c.self.inside.max) }

abbrev second : goal.After-max → Aggregate
second c = record { count = c.other.inside.count; sum = c.other.inside.sum; extremes = Some (bounds c.other.inside.min c.other.inside.max) }

sum_is : (c : goal.After-max) → to_z w128 (of_z w128 (to_z w128 (of_z w128 c.self.inside.sum) +ℤ to_z w128 (of_z w128 c.other.inside.sum))) ≡ c.self.inside.sum +ℤ c.other.inside.sum
sum_is c =
    let m : ℕ = c.self.inside.count in
    let n : ℕ = c.other.inside.count in
    let s : ℤ = c.self.inside.sum in
    let t : ℤ = c.other.inside.sum in
    let few : m + n ≤ 2 ^ 62 = search rules in
    let h : unsigned_abs s ≤ m * 9223372036854775808 = sum_bound m s _ _ c.self.invariant.1 (search rules) (search rules) in
    let k : unsigned_abs t ≤ n * 9223372036854775808 = sum_bound n t _ _ c.other.invariant.1 (search rules) (search rules) in
    ap (λ z. to_z w128 (of_z w128 z)) (plain_sum m n s t few h k) ∙ to_z-of_z (both_fit m n s t few h k)

extremes_are : (c : goal.After-max) → Some (bounds (to_z w64 (of_z w64 c.min.result)) (to_z w64 (of_z w64 c.max.result))) ≡ (merged (first c) (second c)).extremes
extremes_are c =
    let low = plain int_cmp c.self.inside.min c.other.inside.min c.min.result (search rules) (search rules) (search rules) (c.min.ensures.value ∙ min-lesser (to_z w64 (of_z w64 c.self.inside.min)) (to_z w64 (of_z w64 c.other.inside.min))) in
    let high = plain down_cmp c.self.inside.max c.other.inside.max c.max.result (search rules) (search rules) (search rules) (c.max.ensures.value ∙ max-lesser (to_z w64 (of_z w64 c.self.inside.max)) (to_z w64 (of_z w64 c.other.inside.max))) in
    ap₂ (λ x y. Some (bounds x y)) low high

pub invariant_of-result : goal.invariant_of-result
invariant_of-result c =
    let few : c.self.inside.count + c.other.inside.count ≤ 2 ^ 62 = search rules in
    (few, IsSound-parts (first c) (second c) _ _ c.self.invariant.1 c.other.invariant.1 (sum_is c) (extremes_are c))

pub returns : goal.returns
returns c = merged-parts (first c) (second c) _ _ (sum_is c) (extremes_are c) ∙ ap₂ merged c.self.view_is c.other.view_is
