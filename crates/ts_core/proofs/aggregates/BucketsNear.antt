-- Bound of a bucket's index: no further from zero than its time, but for the offset.
use Rattle.std.proofs.Common.{◌≡◌, ℕ, zero, suc, ℤ, pos, negsuc, ◌+◌, ◌*◌, ◌^◌, ◌<◌, ◌≤◌, ◌+ℤ◌, ◌-ℤ◌, ◌*ℤ◌, ◌≤ℤ◌, neg_ℤ, unsigned_abs, arith, mul-suc, SFits, w64}
use Rattle.std.proofs.Math.IntN.{pos-*ℤ-pos, negsuc-*ℤ-pos}
use Rattle.std.proofs.lemmas.Int.{ints, by_lt_z}
use Rattle.ts_core.specs.aggregates.Buckets.{IsBucketOf, bucket_of}
use Rattle.ts_core.proofs.aggregates.BucketsOrder.{bucket_is, times_le}

at_least : (m i : ℕ) → 0 < i → m ≤ m * i
at_least m zero h = absurd (omega arith)
at_least m (suc i) h = omega (arith, mul-suc m i)

wide_up : (m : ℕ) (i : ℤ) → pos 1 ≤ℤ i → pos m ≤ℤ (pos m *ℤ i)
wide_up m (pos i) h = let e : pos m *ℤ pos i ≡ pos (m * i) = pos-*ℤ-pos m i in let k = at_least m i (omega (arith, ints)) in omega (arith, ints)
wide_up m (negsuc i) h = absurd (omega (arith, ints))

wide_down : (m : ℕ) (i : ℤ) → pos 1 ≤ℤ i → (negsuc m *ℤ i) ≤ℤ negsuc m
wide_down m (pos i) h = let e : negsuc m *ℤ pos i ≡ neg_ℤ (pos (suc m * i)) = negsuc-*ℤ-pos m i in let k = at_least (suc m) i (omega (arith, ints)) in omega (arith, ints)
wide_down m (negsuc i) h = absurd (omega (arith, ints))

bucket_near : (m : ℕ) (t i o : ℤ) → pos 1 ≤ℤ i → negsuc m ≤ℤ (t -ℤ o) → (t -ℤ o) ≤ℤ pos m → (negsuc (m + 1) ≤ℤ bucket_of t i o) × (bucket_of t i o ≤ℤ pos (m + 1))
bucket_near m t i o h l u =
    let k : ℤ = bucket_of t i o in
    let b : IsBucketOf t i o k = bucket_is t i o h in
    let b1 = b.from_start in
    let b2 = b.before_end in (
      by_lt_z k (negsuc (m + 1))
          (λ c. let n : (k +ℤ pos 1) ≤ℤ negsuc (m + 1) = omega (arith, ints) in let x = times_le (k +ℤ pos 1) (negsuc (m + 1)) i h n in let y = wide_down (m + 1) i h in absurd (omega (arith, ints)))
          (λ c. c),
      by_lt_z (pos (m + 1)) k
          (λ c. let n : pos (m + 1) ≤ℤ k = omega (arith, ints) in let x = times_le (pos (m + 1)) k i h n in let y = wide_up (m + 1) i h in absurd (omega (arith, ints)))
          (λ c. c),
    )

pub bucket_of-near : (t i o : ℤ) → pos 1 ≤ℤ i → SFits w64 o → unsigned_abs (bucket_of t i o) ≤ unsigned_abs t + 2 ^ 64
bucket_of-near t i o h f =
    let m : ℕ = unsigned_abs t + 2 ^ 63 in
    let low : negsuc m ≤ℤ (t -ℤ o) = omega (arith, ints) in
    let high : (t -ℤ o) ≤ℤ pos m = omega (arith, ints) in
    let b = bucket_near m t i o h low high in
    let b0 = b.0 in
    let b1 = b.1 in
    omega (arith, ints)
