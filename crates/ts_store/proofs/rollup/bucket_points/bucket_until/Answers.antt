use Rattle.std.proofs.Common.{rules, arith, ◌≡◌, ◌<ℤ◌, ◌≤ℤ◌, ◌∙◌, ℤ, pos, ◌+ℤ◌, to_z, of_z, SFits, w64, to_z-of_z, sym, subst}
use Rattle.std.specs.Int.{w128}
use Rattle.std.proofs.lemmas.Int.{ints}
use Rattle.ts_core.specs.facts.Times.{IsTime}
use Rattle.ts_core.specs.aggregates.Buckets.{bucket_of, bucket_start}
use Rattle.ts_core.proofs.aggregates.BucketsOrder.{bucket_is}
use Rattle.ts_store.proofs.rollup.BucketsTakenLemmas.{same_until}
use Rattle.ts_store.proofs.rollup.bucket_points.bucket_until.Goals as goal

-- the end of the bucket of a valid time is after it, and fits 64 bits where it isn't above their greatest number
end_fits : (t i o end : ℤ) → pos 1 ≤ℤ i → end ≡ bucket_start (bucket_of t i o +ℤ pos 1) i o → end ≤ℤ pos 9223372036854775807 → IsTime t → (t <ℤ end) × SFits w64 end
end_fits t i o end long is most valid =
    let after : t <ℤ end = subst (λ z. t <ℤ z) (sym is) (bucket_is t i o long).before_end in
    let least = valid.not_before in
    (after, omega (arith, ints))

pub returns-then-bucket-from-clause-same : goal.returns-then-bucket-from-clause-same
returns-then-bucket-from-clause-same g c = λ t from before.
    let i : ℤ = c.args.rule.now.interval in
    let o : ℤ = c.args.rule.now.offset in
    let end : to_z w128 (of_z w128 c.bucket-bucket.result.end) ≡ bucket_start (bucket_of c.args.time i o +ℤ pos 1) i o = search rules in
    let above : pos 9223372036854775807 <ℤ to_z w128 (of_z w128 c.bucket-bucket.result.end) = search rules in
    same_until c.args.time i o (pos 9223372036854775807) t c.requires (subst (λ z. pos 9223372036854775807 ≤ℤ z) end (omega (arith, ints))) from before

pub overflow_cast-result : goal.overflow_cast-result
overflow_cast-result g c =
    let i : ℤ = c.args.rule.now.interval in
    let o : ℤ = c.args.rule.now.offset in
    let end : to_z w128 (of_z w128 c.bucket-bucket.result.end) ≡ bucket_start (bucket_of c.args.time i o +ℤ pos 1) i o = search rules in
    let most : to_z w128 (of_z w128 c.bucket-bucket.result.end) ≤ℤ pos 9223372036854775807 = search rules in
    (end_fits c.args.time i o _ c.requires end most (subst IsTime c.nanos.ensures.value c.nanos.ensures.valid)).1

pub returns-clause-after : goal.returns-clause-after
returns-clause-after g c =
    let i : ℤ = c.args.rule.now.interval in
    let o : ℤ = c.args.rule.now.offset in
    let end : to_z w128 (of_z w128 c.bucket-bucket.result.end) ≡ bucket_start (bucket_of c.args.time i o +ℤ pos 1) i o = search rules in
    let most : to_z w128 (of_z w128 c.bucket-bucket.result.end) ≤ℤ pos 9223372036854775807 = search rules in
    let fits = end_fits c.args.time i o _ c.requires end most (subst IsTime c.nanos.ensures.value c.nanos.ensures.valid) in
    subst (λ z. c.args.time <ℤ z) (sym (to_z-of_z fits.1)) fits.0

pub returns-clause-same : goal.returns-clause-same
returns-clause-same g c = λ t from before.
    let i : ℤ = c.args.rule.now.interval in
    let o : ℤ = c.args.rule.now.offset in
    let end : to_z w128 (of_z w128 c.bucket-bucket.result.end) ≡ bucket_start (bucket_of c.args.time i o +ℤ pos 1) i o = search rules in
    let most : to_z w128 (of_z w128 c.bucket-bucket.result.end) ≤ℤ pos 9223372036854775807 = search rules in
    let fits = end_fits c.args.time i o _ c.requires end most (subst IsTime c.nanos.ensures.value c.nanos.ensures.valid) in
    same_until c.args.time i o (bucket_start (bucket_of c.args.time i o +ℤ pos 1) i o) t c.requires (omega (arith, ints)) from (subst (λ z. t <ℤ z) (to_z-of_z fits.1 ∙ end) before)
