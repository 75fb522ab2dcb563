use Rattle.std.proofs.Common.{arith, ◌≡◌, ap, ap₂, ◌∙◌, ◌+◌, ◌^◌, ◌≤◌, ◌+ℤ◌, to_z, of_z}
use Rattle.std.specs.Int.{w128}
use Rattle.std.proofs.lemmas.Int.{ints}
use Rattle.ts_core.specs.aggregates.Aggregates.{Aggregate, merged}
use Rattle.ts_core.specs.aggregates.SoundLaws.{IsSound-parts, merged-parts}
use Rattle.ts_core.proofs.aggregates.aggregate.AggPartial.merge.Goals as goal

pub invariant_of-result : goal.invariant_of-result
invariant_of-result c =
    let a : Aggregate = record { count = c.self.inside.count; sum = c.self.inside.sum; extremes = c.self.inside.extremes } in
    let b : Aggregate = record { count = c.other.inside.count; sum = c.other.inside.sum; extremes = c.other.inside.extremes } in
    let counts : a.count + b.count ≤ 2 ^ 62 = rw (ap (λ (x : Aggregate). x.count) c.self.view_is, ap (λ (x : Aggregate). x.count) c.other.view_is) c.requires in
    let h = c.self.invariant.1 in
    let k = c.other.invariant.1 in
    let s : to_z w128 (of_z w128 (to_z w128 (of_z w128 a.sum) +ℤ to_z w128 (of_z w128 b.sum))) ≡ a.sum +ℤ b.sum = omega (arith, ints) in
    (counts, omega (arith, ints), IsSound-parts a b _ c.merge_extremes.result c.self.invariant.2 c.other.invariant.2 s c.merge_extremes.ensures)

pub returns : goal.returns
returns c =
    let a : Aggregate = record { count = c.self.inside.count; sum = c.self.inside.sum; extremes = c.self.inside.extremes } in
    let b : Aggregate = record { count = c.other.inside.count; sum = c.other.inside.sum; extremes = c.other.inside.extremes } in
    let counts : a.count + b.count ≤ 2 ^ 62 = rw (ap (λ (x : Aggregate). x.count) c.self.view_is, ap (λ (x : Aggregate). x.count) c.other.view_is) c.requires in
    let h = c.self.invariant.1 in
    let k = c.other.invariant.1 in
    let s : to_z w128 (of_z w128 (to_z w128 (of_z w128 a.sum) +ℤ to_z w128 (of_z w128 b.sum))) ≡ a.sum +ℤ b.sum = omega (arith, ints) in
    merged-parts a b _ c.merge_extremes.result s c.merge_extremes.ensures ∙ ap₂ merged c.self.view_is c.other.view_is
