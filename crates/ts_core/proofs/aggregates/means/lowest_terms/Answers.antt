use Rattle.std.proofs.Common.{rules, ◌≡◌, ℕ, ◌/◌, to_z, of_z, unsigned_abs, subst, sym}
use Rattle.std.specs.Int.{w128, IsGcd}
use Rattle.ts_core.specs.aggregates.Means.{IsMean, signed_as_of}
use Rattle.ts_core.proofs.aggregates.MeansLemmas.{IsMean-given}
use Rattle.ts_core.proofs.aggregates.means.lowest_terms.Goals as goal

pub returns : goal.returns
returns c =
    let m : ℕ = c.unsigned_abs-magnitude.result in
    let g : ℕ = c.greatest_common_divisor-divisor.result in
    let e : m ≡ unsigned_abs c.args.sum = search rules in
    let f : to_z w128 (of_z w128 c.signed_as.result) ≡ signed_as_of c.args.sum (m / g) = search rules in
    let same : c.from.result ≡ c.args.count = search rules in
    let same2 : c.from-2.result ≡ c.args.count = search rules in
    let k : IsGcd m c.args.count g = subst (λ x. IsGcd m x g) same c.greatest_common_divisor-divisor.ensures.greatest in
    subst (λ x. IsMean c.args.count c.args.sum (to_z w128 (of_z w128 c.signed_as.result)) (x / g)) (sym same2)
    (IsMean-given c.args.sum _ m c.args.count g c.requires.some k e f)
