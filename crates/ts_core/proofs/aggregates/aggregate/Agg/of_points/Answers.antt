use Rattle.std.proofs.Common.{rules, arith, ◌≡◌, to_z, of_z, to_z-of_z, w64, SFits, subst, sym, ◌*◌, ◌≤◌, unsigned_abs}
use Rattle.std.specs.Int.{w128}
use Rattle.std.proofs.lemmas.Int.{ints}
use Rattle.ts_core.specs.aggregates.Aggregates.{IsSpread}
use Rattle.ts_core.specs.aggregates.SoundLaws.{spread_bound}
use Rattle.ts_core.proofs.aggregates.aggregate.Agg.of_points.Goals as goal

pub invariant_of-result : goal.invariant_of-result
invariant_of-result c =
    let low : SFits w64 c.args.extremes.min = search rules in
    let high : SFits w64 c.args.extremes.max = search rules in
    let sum : to_z w128 (of_z w128 c.args.sum) ≡ c.args.sum = (let fits : SFits w128 c.args.sum = search rules in to_z-of_z fits) in
    let bound : unsigned_abs c.args.sum ≤ c.args.count * 9223372036854775808 = spread_bound c.args.count c.args.sum c.args.extremes c.requires.spread (omega (arith, ints)) (omega (arith, ints)) in
    (c.requires.few, subst (λ z. unsigned_abs z ≤ c.args.count * 9223372036854775808) (sym sum) bound, subst (λ z. IsSpread c.args.count z c.args.extremes) (sym sum) c.requires.spread)
