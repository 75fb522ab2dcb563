-- Bounds of the index of a bucket of a second or more: it fits 64 bits, for a valid time and for one less a duration.
use Rattle.std.proofs.Common.{ℕ, ℤ, pos, negsuc, ◌^◌, ◌<◌, ◌≤ℤ◌, ◌<ℤ◌, ◌+ℤ◌, ◌-ℤ◌, ◌*ℤ◌, FitsSigned, w64, arith, ⊎_elim}
use Rattle.std.proofs.lemmas.Int.{ints}
use Rattle.std.proofs.lemmas.Bool.{cases_lt}
use Rattle.ts_core.specs.settings.Settings.{Rule}
use Rattle.ts_core.specs.aggregates.Buckets.{IsBucketOf}
use Rattle.ts_core.specs.store.Marks.{index_of}
use Rattle.ts_core.specs.moves.RuleMoves.{IndicesFit}
use Rattle.ts_core.proofs.aggregates.BucketsOrder.{bucket_is, times_le}

-- Within 2^36, which leaves room for the next index
record IsSmall (k : ℤ) : Type 0 where
  low : negsuc (2 ^ 36) ≤ℤ k
  high : k ≤ℤ pos (2 ^ 36)

not_above : (m : ℕ) (n t o : ℤ) → pos 1000000000 ≤ℤ n → t ≤ℤ pos (2 ^ 65) → negsuc (2 ^ 63) ≤ℤ o → ((pos m *ℤ n) +ℤ o) ≤ℤ t → m < 2 ^ 36
not_above m n t o long late offset start =
    ⊎_elim {C = m < 2 ^ 36} (λ lt. lt)
    (λ le.
    let more : (pos (2 ^ 36) *ℤ n) ≤ℤ (pos m *ℤ n) = times_le (pos (2 ^ 36)) (pos m) n (let h : pos 1 ≤ℤ n = omega (arith, ints) in h) (let h : pos (2 ^ 36) ≤ℤ pos m = omega (arith, ints) in h) in
    absurd (omega (arith, ints)))
    (cases_lt m (2 ^ 36))

not_below : (m : ℕ) (n t o : ℤ) → pos 1000000000 ≤ℤ n → negsuc (2 ^ 65) ≤ℤ t → o ≤ℤ pos (2 ^ 63) → t <ℤ (((negsuc m +ℤ pos 1) *ℤ n) +ℤ o) → m < 2 ^ 36
not_below m n t o long early offset end =
    ⊎_elim {C = m < 2 ^ 36} (λ lt. lt)
    (λ le.
    let less : ((negsuc m +ℤ pos 1) *ℤ n) ≤ℤ (negsuc 68719476735 *ℤ n) = times_le (negsuc m +ℤ pos 1) (negsuc 68719476735) n (let h : pos 1 ≤ℤ n = omega (arith, ints) in h) (let h : (negsuc m +ℤ pos 1) ≤ℤ negsuc 68719476735 = omega (arith, ints) in h) in
    absurd (omega (arith, ints)))
    (cases_lt m (2 ^ 36))

small_of : (k n t o : ℤ) → pos 1000000000 ≤ℤ n → negsuc (2 ^ 65) ≤ℤ t → t ≤ℤ pos (2 ^ 65) → negsuc (2 ^ 63) ≤ℤ o → o ≤ℤ pos (2 ^ 63) → IsBucketOf t n o k → IsSmall k
small_of (pos m) n t o long early late low high b = let lt = not_above m n t o long late low b.from_start in record { low = omega (arith, ints); high = omega (arith, ints) }
small_of (negsuc m) n t o long early late low high b = let lt = not_below m n t o long early high b.before_end in record { low = omega (arith, ints); high = omega (arith, ints) }

small_index : (r : Rule) (t : ℤ) → pos 1000000000 ≤ℤ r.interval → FitsSigned w64 r.offset → negsuc (2 ^ 65) ≤ℤ t → t ≤ℤ pos (2 ^ 65) → IsSmall (index_of r t)
small_index r t long offset early late =
    small_of (index_of r t) r.interval t r.offset long early late (let h : negsuc (2 ^ 63) ≤ℤ r.offset = omega (arith, ints) in h) (let h : r.offset ≤ℤ pos (2 ^ 63) = omega (arith, ints) in h)
    (bucket_is t r.interval r.offset (let h : pos 1 ≤ℤ r.interval = omega (arith, ints) in h))

fits_within : (z : ℤ) → negsuc (2 ^ 37) ≤ℤ z → z ≤ℤ pos (2 ^ 37) → FitsSigned w64 z
fits_within (pos m) low high = record { sfits = omega (arith, ints) }
fits_within (negsuc m) low high = record { sfits = omega (arith, ints) }

fits_small : (k : ℤ) → IsSmall k → FitsSigned w64 k
fits_small k s = let l = s.low in let h = s.high in fits_within k (omega (arith, ints)) (omega (arith, ints))

fits_next : (k : ℤ) → IsSmall k → FitsSigned w64 (k +ℤ pos 1)
fits_next k s = let l = s.low in let h = s.high in fits_within (k +ℤ pos 1) (omega (arith, ints)) (omega (arith, ints))

pub indices_fit : IndicesFit
indices_fit = record {
  bucket = λ r t long offset near. fits_small (index_of r t) (small_index r t long offset (let h : negsuc (2 ^ 65) ≤ℤ t = omega (arith, ints) in h) (let h : t ≤ℤ pos (2 ^ 65) = omega (arith, ints) in h));
  first = λ r t long offset near.
      fits_next (index_of r (t -ℤ pos 1))
      (small_index r (t -ℤ pos 1) long offset (let h : negsuc (2 ^ 65) ≤ℤ (t -ℤ pos 1) = omega (arith, ints) in h) (let h : (t -ℤ pos 1) ≤ℤ pos (2 ^ 65) = omega (arith, ints) in h));
}
