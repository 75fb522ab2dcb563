use Rattle.std.proofs.Common.{rules, ◌≡◌, ◌+◌, ◌^◌, ◌≤◌, sym, subst, unsigned_abs, SFits, w64, to_z, of_z}
use Rattle.std.specs.Int.{w128}
use Rattle.ts_core.specs.aggregates.Buckets.{bucket_of}
use Rattle.ts_core.proofs.aggregates.BucketsLemmas.{IsBucketOf-from_index}
use Rattle.ts_core.proofs.aggregates.BucketsNear.{bucket_of-near}
use Rattle.ts_core.proofs.aggregates.bucket.Buckets.index.Goals as goal

pub returns-clause-bucket : goal.returns-clause-bucket
returns-clause-bucket c =
    let e : to_z w128 (of_z w128 c.floor_quotient.result) ≡ bucket_of c.args.time c.args.self.interval c.args.self.offset = search rules in
    IsBucketOf-from_index c.args.time c.args.self.interval c.args.self.offset _ c.requires.interval e

pub returns-clause-near : goal.returns-clause-near
returns-clause-near c =
    let i = c.args.self.interval in
    let o = c.args.self.offset in
    let e : to_z w128 (of_z w128 c.floor_quotient.result) ≡ bucket_of c.args.time i o = search rules in
    let f : SFits w64 o = search rules in
    subst (λ k. unsigned_abs k ≤ unsigned_abs c.args.time + 2 ^ 64) (sym e) (bucket_of-near c.args.time i o c.requires.interval f)
