-- The bucket of a time: the times in it, and a bound on its start's distance from zero.
use Rattle.std.proofs.Common.{◌≡◌, ℤ, pos, ◌+ℤ◌, ◌-ℤ◌, ◌≤ℤ◌, ◌≤◌, ◌^◌, unsigned_abs, arith, refl, SFits, w64, to_z, of_z, to_z-of_z}
use Rattle.std.specs.Int.{w128}
use Rattle.std.proofs.lemmas.Int.{ints, fits_signed_from_abs}
use Rattle.ts_core.specs.aggregates.Buckets.{bucket_of, bucket_start}
use Rattle.ts_core.proofs.aggregates.BucketsOrder.{bucket_is, bucket_same, bucket_of-start, one_more}
use Rattle.ts_exec.specs.RowParts.{IsSpan}
use Rattle.ts_exec.specs.Fillings.{AreNear}

pub span-is : (t i o : ℤ) → pos 1 ≤ℤ i → IsSpan t i o (bucket_start (bucket_of t i o) i o) (bucket_start (bucket_of t i o +ℤ pos 1) i o) (bucket_of t i o)
span-is t i o h =
    let b = bucket_is t i o h in
    record {
      is = refl;
      from = b.from_start;
      before = b.before_end;
      all = λ u l v. bucket_same u i o (bucket_of u i o) (bucket_of t i o) h (bucket_is u i o h) (record { from_start = l; before_end = v });
      next = bucket_of-start (bucket_of t i o +ℤ pos 1) i o h;
    }

pub start-near : (t i o : ℤ) → pos 1 ≤ℤ i → SFits w64 t → SFits w64 i → AreNear (bucket_start (bucket_of t i o) i o) i
start-near t i o h ft fi =
    let b = bucket_is t i o h in
    let from = b.from_start in
    let before = b.before_end in
    let m = one_more (bucket_of t i o) i in
    record { least = omega (arith, ints); most = omega (arith, ints); forward = omega (arith, ints) }

-- the moment before a time
pub before-fits : (t u : ℤ) → SFits w64 t → u ≡ t → SFits w128 (to_z w128 (of_z w128 u) -ℤ pos 1)
before-fits t u f e =
    let small : unsigned_abs t ≤ 2 ^ 63 = omega (arith, ints) in
    let wide : SFits w128 t = fits_signed_from_abs w128 t (omega arith) in
    rw (e, to_z-of_z wide) (fits_signed_from_abs w128 (t -ℤ pos 1) (omega (arith, ints)))
