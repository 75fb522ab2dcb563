use Rattle.std.proofs.Common.{rules, arith, ◌≡◌, ℤ, ◌*ℤ◌, ◌+ℤ◌, SFits, w64, to_z, of_z, to_z-of_z}
use Rattle.std.specs.Int.{w128}
use Rattle.std.proofs.lemmas.Int.{ints}
use Rattle.ts_core.proofs.aggregates.bucket.Buckets.start.Goals as goal

pub returns : goal.returns
returns c =
    let o : ℤ = c.args.self.offset in
    let p : ℤ = c.args.index *ℤ c.args.self.interval in
    let index : to_z w128 (of_z w128 c.args.index) ≡ c.args.index = search rules in
    let interval : to_z w128 (of_z w128 c.from.result) ≡ c.args.self.interval = search rules in
    let offset : to_z w128 (of_z w128 c.from-2.result) ≡ o = search rules in
    let narrow : SFits w64 o = search rules in
    let product : SFits w128 p = omega (arith, ints, c.requires, narrow) in
    let sum : SFits w128 (p +ℤ o) = omega (arith, ints, c.requires) in
    rw (index, interval, to_z-of_z product, offset) (to_z-of_z sum)
