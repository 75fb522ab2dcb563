-- Existence and uniqueness of the bucket of a time.
use borrow.Author.Differences.{up, down, product_is}
use Rattle.std.proofs.Common.{◌≡◌, ◌+◌, ℕ, ℤ, pos, negsuc, ◌*◌, ◌/◌, ◌<◌, ◌+ℤ◌, ◌-ℤ◌, ◌*ℤ◌, ◌≤ℤ◌, ◌<ℤ◌, arith, refl, sym, ap, ◌∙◌, suc, subst, neg_ℤ, div-add-mod', mod-lt, zero-mul, zero, unsigned_abs}
use Rattle.std.specs.Int.Signed.{yes_non_neg, pos-nat_abs}
use Rattle.std.proofs.Math.IntN.{+ℤ-suc_ℤ, suc_ℤ-*ℤ, +ℤ_idr, negsuc-*ℤ-pos, pos-*ℤ-pos}
use Rattle.std.proofs.lemmas.Int.{ints, by_lt_z}
use Rattle.std.specs.Int.{int_div_euclid}
use Rattle.ts_core.specs.aggregates.Buckets.{IsBucketOf, bucket_of}

floor_low : (d : ℤ) (b : ℕ) → 0 < b → (int_div_euclid d (pos b) *ℤ pos b) ≤ℤ d
floor_low (pos a) b h = rw pos-*ℤ-pos (omega (arith, ints, div-add-mod' a b))
floor_low (negsuc a) b h = rw negsuc-*ℤ-pos (omega (arith, ints, div-add-mod' a b, mod-lt a h))

one_up : (q : ℕ) → (negsuc q +ℤ pos 1) ≡ neg_ℤ (pos q)
one_up zero = refl
one_up (suc q) = omega (arith, ints)

pub times_neg : (q b : ℕ) → neg_ℤ (pos q) *ℤ pos b ≡ neg_ℤ (pos (q * b))
times_neg zero b = pos-*ℤ-pos 0 b ∙ rw zero-mul refl
times_neg (suc q) b = negsuc-*ℤ-pos q b

floor_high : (d : ℤ) (b : ℕ) → 0 < b → d <ℤ ((int_div_euclid d (pos b) +ℤ pos 1) *ℤ pos b)
floor_high (pos a) b h = omega (arith, ints, div-add-mod' a b, mod-lt a h)
floor_high (negsuc a) b h = rw (one_up (a / b), times_neg (a / b) b) (omega (arith, ints, div-add-mod' a b))

-- the definition is what its own words say
pub bucket_of-is : (t o : ℤ) (i : ℕ) → 0 < i → IsBucketOf t (pos i) o (bucket_of t (pos i) o)
bucket_of-is t o i h =
    let low = floor_low (t -ℤ o) i h in
    let high = floor_high (t -ℤ o) i h in
    record { from_start = omega (arith, ints); before_end = omega (arith, ints) }

pub IsBucketOf-from_index : (t i o k : ℤ) → pos 1 ≤ℤ i → k ≡ bucket_of t i o → IsBucketOf t i o k
IsBucketOf-from_index t (pos i) o k h e = subst (IsBucketOf t (pos i) o) (sym e) (bucket_of-is t o i (omega (arith, ints)))
IsBucketOf-from_index t (negsuc i) o k h e = absurd (omega (arith, ints))

-- ---- and there is one alone

pub times_sum : (j d i : ℤ) → (j +ℤ d) *ℤ i ≡ (j *ℤ i) +ℤ (d *ℤ i)
times_sum j d i =
    let both : up (j +ℤ d) + (down j + down d) ≡ (up j + up d) + down (j +ℤ d) = omega (arith, ints) in
    let whole = product_is (j +ℤ d) i in
    let first = product_is j i in
    let second = product_is d i in
    omega (arith, ints, whole.0, whole.1, first.0, first.1, second.0, second.1, ap (λ x. x * up i) both, ap (λ x. x * down i) both)

pub times_up : (j k : ℤ) (i : ℕ) → j ≤ℤ k → (j *ℤ pos i) ≤ℤ (k *ℤ pos i)
times_up j k i l =
    let z : ℤ = k -ℤ j in
    let e : pos (unsigned_abs z) ≡ z = pos-nat_abs z (yes_non_neg (omega (arith, ints))) in
    let sum = times_sum j (pos (unsigned_abs z)) (pos i) in
    let above = pos-*ℤ-pos (unsigned_abs z) i in
    let s : j +ℤ pos (unsigned_abs z) ≡ k = ap (λ x. j +ℤ x) e ∙ omega (arith, ints) in
    subst (λ x. (j *ℤ pos i) ≤ℤ (x *ℤ pos i)) s (omega (arith, ints))

-- one more of the first factor is one more of the second
pub one_more_of : (j : ℤ) (i : ℕ) → (j +ℤ pos 1) *ℤ pos i ≡ j *ℤ pos i +ℤ pos i
one_more_of j i = ap (λ z. z *ℤ pos i) (+ℤ-suc_ℤ j (pos 0)) ∙ suc_ℤ-*ℤ (j +ℤ pos 0) (pos i) ∙ ap (λ z. z *ℤ pos i +ℤ pos i) (+ℤ_idr j)

pub times_above : (j k : ℤ) (i : ℕ) → j <ℤ k → ((j +ℤ pos 1) *ℤ pos i) ≤ℤ (k *ℤ pos i)
times_above j k i l = times_up (j +ℤ pos 1) k i (omega (arith, ints))

apart : (t o j k : ℤ) (i : ℕ) → IsBucketOf t (pos i) o j → IsBucketOf t (pos i) o k → j <ℤ k → ⊥
apart t o j k i a b l =
    let n = times_above j k i l in
    let p = a.before_end in
    let q = b.from_start in
    absurd (omega (arith, ints))

-- a factor above 0 taken away
pub times_cancel : (j k : ℤ) (i : ℕ) → 0 < i → j *ℤ pos i ≡ k *ℤ pos i → j ≡ k
times_cancel j k i some e =
    by_lt_z j k (λ l. absurd (let a = times_above j k i l in let b = one_more_of j i in omega (arith, ints)))
    (λ m. by_lt_z k j (λ l. absurd (let a = times_above k j i l in let b = one_more_of k i in omega (arith, ints))) (λ n. omega (arith, ints)))

pub bucket_unique : (t o j k : ℤ) (i : ℕ) → IsBucketOf t (pos i) o j → IsBucketOf t (pos i) o k → j ≡ k
bucket_unique t o j k i a b =
    by_lt_z j k (λ l. absurd (apart t o j k i a b l)) (λ m. by_lt_z k j (λ l. absurd (apart t o k j i b a l)) (λ n. omega (arith, ints)))
