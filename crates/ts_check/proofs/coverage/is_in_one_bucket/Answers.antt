use Rattle.std.proofs.Common.{rules, ◌≡◌, ◌∙◌, ap₂, pos, ◌-ℤ◌, SFits}
use Rattle.std.specs.Int.{w128}
use Rattle.std.specs.Ordering.{int_eq}
use Rattle.ts_core.specs.aggregates.Buckets.{bucket_of}
use Rattle.ts_check.proofs.Bits.{same_bits}
use Rattle.ts_check.proofs.coverage.is_in_one_bucket.Goals as goal

pub returns : goal.returns
returns g c =
    let f : SFits w128 c.index-first.result = search rules in
    let g : SFits w128 c.index-last.result = search rules in
    let a : c.index-first.result ≡ bucket_of c.args.from c.args.query.now.query.interval c.args.query.now.query.offset = search rules in
    let b : c.index-last.result ≡ bucket_of (c.args.to -ℤ pos 1) c.args.query.now.query.interval c.args.query.now.query.offset = search rules in
    same_bits w128 _ _ f g ∙ ap₂ int_eq a b
