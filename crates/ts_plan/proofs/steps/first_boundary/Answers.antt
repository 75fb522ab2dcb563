use Rattle.std.proofs.Common.{◌≡◌, pos, ◌≤ℤ◌, ◌+ℤ◌, ◌-ℤ◌, ap, to_z, of_z, arith}
use Rattle.std.specs.Int.{w128}
use Rattle.std.proofs.lemmas.Int.{ints}
use Rattle.ts_plan.proofs.BucketStarts.{first_here, first_ahead, first_found, rem_low, rem_high}
use Rattle.ts_plan.proofs.steps.first_boundary.Goals as goal

pub returns : goal.returns
returns g c =
    let r = c.args.rule.now in
    let k = c.offset_in_bucket-offset_in_bucket.ensures in
    let low = rem_low (c.args.from -ℤ r.offset) r.interval in
    let high = rem_high (c.args.from -ℤ r.offset) r.interval c.requires in
    let z : pos 1 ≤ℤ c.offset_in_bucket-offset_in_bucket.result = omega (arith, ints) in
    let e : to_z w128 (of_z w128 (to_z w128 (of_z w128 c.from.result) -ℤ to_z w128 (of_z w128 c.offset_in_bucket-offset_in_bucket.result))) ≡ r.interval -ℤ c.offset_in_bucket-offset_in_bucket.result = omega (arith, ints) in
    first_found r c.args.from _ c.args.end c.checked_add-2.result (first_ahead r c.args.from c.offset_in_bucket-offset_in_bucket.result _ c.requires k z (ap (λ v. c.args.from +ℤ v) e)) c.checked_add-2.ensures

pub returns-then-offset_in_bucket-eq0 : goal.returns-then-offset_in_bucket-eq0
returns-then-offset_in_bucket-eq0 g c =
    let r = c.args.rule.now in
    let k = c.offset_in_bucket-offset_in_bucket.ensures in
    let low = rem_low (c.args.from -ℤ r.offset) r.interval in
    let high = rem_high (c.args.from -ℤ r.offset) r.interval c.requires in
    let z : c.offset_in_bucket-offset_in_bucket.result ≡ pos 0 = omega (arith, ints) in
    let f : to_z w128 (of_z w128 c.offset_in_bucket-offset_in_bucket.result) ≡ c.offset_in_bucket-offset_in_bucket.result = omega (arith, ints) in
    first_found r c.args.from _ c.args.end c.checked_add.result (first_here r c.args.from c.offset_in_bucket-offset_in_bucket.result _ c.requires k z (ap (λ v. c.args.from +ℤ v) f)) c.checked_add.ensures
