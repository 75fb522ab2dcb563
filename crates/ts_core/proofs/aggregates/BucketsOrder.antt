-- Order of buckets: with an interval of 1 or more, later times have no earlier bucket.
use Rattle.std.proofs.Common.{◌≡◌, ℤ, pos, negsuc, ◌+ℤ◌, ◌*ℤ◌, ◌≤ℤ◌, arith, refl, ap, ◌∙◌}
use Rattle.std.proofs.Math.IntN.{suc_ℤ-*ℤ, +ℤ_one}
use Rattle.std.proofs.lemmas.Int.{ints, by_lt_z}
use Rattle.ts_core.specs.aggregates.Buckets.{IsBucketOf, bucket_of}
use Rattle.ts_core.proofs.aggregates.BucketsLemmas.{IsBucketOf-from_index, bucket_unique, times_up}

pub bucket_same : (t i o j k : ℤ) → pos 1 ≤ℤ i → IsBucketOf t i o j → IsBucketOf t i o k → j ≡ k
bucket_same t (pos i) o j k h a b = bucket_unique t o j k i a b
bucket_same t (negsuc i) o j k h a b = absurd (omega (arith, ints))

pub bucket_is : (t i o : ℤ) → pos 1 ≤ℤ i → IsBucketOf t i o (bucket_of t i o)
bucket_is t i o h = IsBucketOf-from_index t i o (bucket_of t i o) h refl

pub one_more : (k i : ℤ) → (k +ℤ pos 1) *ℤ i ≡ (k *ℤ i) +ℤ i
one_more k i = ap (λ z. z *ℤ i) (+ℤ_one k) ∙ suc_ℤ-*ℤ k i

pub times_le : (j k i : ℤ) → pos 1 ≤ℤ i → j ≤ℤ k → (j *ℤ i) ≤ℤ (k *ℤ i)
times_le j k (negsuc i) h l = absurd (omega (arith, ints))
times_le j k (pos i) h l = times_up j k i l

pub bucket_le : (t u i o : ℤ) → pos 1 ≤ℤ i → t ≤ℤ u → bucket_of t i o ≤ℤ bucket_of u i o
bucket_le t u i o h l =
    let j : ℤ = bucket_of t i o in
    let k : ℤ = bucket_of u i o in
    let a : IsBucketOf t i o j = bucket_is t i o h in
    let b : IsBucketOf u i o k = bucket_is u i o h in
    let p = a.from_start in
    let q = b.before_end in
    by_lt_z k j
    (λ m. let n : (k +ℤ pos 1) ≤ℤ j = omega (arith, ints) in let x = times_le (k +ℤ pos 1) j i h n in absurd (omega (arith, ints)))
    (λ m. m)

-- the start of a bucket lies in it
pub bucket_of-start : (k i o : ℤ) → pos 1 ≤ℤ i → bucket_of ((k *ℤ i) +ℤ o) i o ≡ k
bucket_of-start k i o h =
    let e = one_more k i in
    let t : ℤ = (k *ℤ i) +ℤ o in
    let b : IsBucketOf t i o k = record { from_start = omega (arith, ints); before_end = omega (arith, ints) } in
    bucket_same t i o (bucket_of t i o) k h (bucket_is t i o h) b
