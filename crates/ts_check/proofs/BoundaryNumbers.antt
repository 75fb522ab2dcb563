-- The numbers of a boundary, which fit 128 bits.
use Rattle.std.proofs.Common.{ℤ, pos, ◌+ℤ◌, ◌*ℤ◌, ◌≤ℤ◌, arith, SFits}
use Rattle.std.specs.Int.{w64, w128}
use Rattle.std.proofs.lemmas.Int.{ints, fits_signed_from_abs}
use Rattle.ts_core.specs.settings.Settings.{Rule}
use Rattle.ts_core.specs.store.Marks.{index_of}
use Rattle.ts_core.proofs.aggregates.BucketsOrder.{bucket_is, one_more}

pub product_fits : (r : Rule) (t : ℤ) → pos 1 ≤ℤ r.interval → SFits w64 r.interval → SFits w64 r.offset → SFits w64 t → SFits w128 (index_of r t *ℤ r.interval)
product_fits r t h i o p =
    let b = bucket_is t r.interval r.offset h in
    let from = b.from_start in
    let end = b.before_end in
    let m = one_more (index_of r t) r.interval in
    fits_signed_from_abs w128 (index_of r t *ℤ r.interval) (omega (arith, ints))

pub start_fits : (r : Rule) (t : ℤ) → pos 1 ≤ℤ r.interval → SFits w64 r.interval → SFits w64 r.offset → SFits w64 t → SFits w128 ((index_of r t *ℤ r.interval) +ℤ r.offset)
start_fits r t h i o p =
    let b = bucket_is t r.interval r.offset h in
    let from = b.from_start in
    let end = b.before_end in
    let m = one_more (index_of r t) r.interval in
    fits_signed_from_abs w128 ((index_of r t *ℤ r.interval) +ℤ r.offset) (omega (arith, ints))
