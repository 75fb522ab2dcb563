use Rattle.std.proofs.Common.{rules, arith, ◌≡◌, ◌∙◌, ℤ, pos, ◌≤ℤ◌, ◌+ℤ◌, unsigned_abs, ◌≤◌, ◌^◌, SFits, w64, to_z, of_z, to_z-of_z}
use Rattle.std.specs.Int.{w128}
use Rattle.std.proofs.lemmas.Int.{ints}
use Rattle.ts_core.specs.aggregates.Buckets.{bucket_of, bucket_start}
use Rattle.ts_core.proofs.aggregates.BucketsOrder.{bucket_is, one_more}
use Rattle.ts_core.proofs.aggregates.bucket.Buckets.bucket.Goals as goal

-- the end of a bucket that contains a time fits
end_fits : (t i o : ℤ) → pos 1 ≤ℤ i → SFits w64 i → unsigned_abs t ≤ 2 ^ 64 → SFits w128 (bucket_start (bucket_of t i o) i o +ℤ i)
end_fits t i o h f near =
    let b = bucket_is t i o h in
    let low = b.from_start in
    let high = b.before_end in
    let m = one_more (bucket_of t i o) i in
    omega (arith, ints)

pub overflow_add-result : goal.overflow_add-result
overflow_add-result c =
    let i : ℤ = c.args.self.interval in
    let o : ℤ = c.args.self.offset in
    let start : to_z w128 (of_z w128 c.start-start.result) ≡ bucket_start (bucket_of c.args.time i o) i o = search rules in
    let width : to_z w128 (of_z w128 c.from.result) ≡ i = search rules in
    let f : SFits w64 i = search rules in
    rw (start, width) (end_fits c.args.time i o c.requires.interval f c.requires.bound)

pub returns-clause-end : goal.returns-clause-end
returns-clause-end c =
    let i : ℤ = c.args.self.interval in
    let o : ℤ = c.args.self.offset in
    let k : ℤ = bucket_of c.args.time i o in
    let start : to_z w128 (of_z w128 c.start-start.result) ≡ bucket_start k i o = search rules in
    let width : to_z w128 (of_z w128 c.from.result) ≡ i = search rules in
    let f : SFits w64 i = search rules in
    let m = one_more k i in
    let next : bucket_start k i o +ℤ i ≡ bucket_start (k +ℤ pos 1) i o = omega (arith, ints) in
    rw (start, width) (to_z-of_z (end_fits c.args.time i o c.requires.interval f c.requires.bound) ∙ next)
