use Rattle.std.proofs.Common.{rules, ◌+◌, ◌^◌, ◌≤◌, ℕ, ℤ, ◌+ℤ◌, length, List, subst, sym, ◌∙◌, ap, Some}
use Rattle.ts_core.specs.aggregates.Aggregates.{Aggregate, IsSpread}
use Rattle.ts_exec.specs.declared.aggregate_parts.AggregateParts.TheVariants.{CountAndSum}
use Rattle.ts_exec.specs.RowParts.{part_with, wide_extremes}
use Rattle.ts_exec.proofs.Folded.{merged-summed, spread-both, summed-both}
use Rattle.ts_exec.proofs.fold.SummedFold.with_all.Goals as goal

pub invariant_of-result : goal.invariant_of-result
invariant_of-result c =
    let n : ℕ = c.self.inside.count in
    let m : ℕ = length c.args.points.now in
    let t : ℤ = c.sum_of_values.result in
    let added : IsSpread m t wide_extremes = subst (λ z. IsSpread m z wide_extremes) (sym c.sum_of_values.ensures.value) c.sum_of_values.ensures.spread in
    let few : n + m ≤ 2 ^ 62 = search rules in
    (few, spread-both n m c.self.inside.sum t c.self.invariant.1 added few)

pub returns-in-16-to-2147483648 : goal.returns-in-16-to-2147483648
returns-in-16-to-2147483648 c =
    let n : ℕ = c.self.inside.count in
    let ps : List (ℤ × ℤ) = c.args.points.now in
    let m : ℕ = length ps in
    let s : ℤ = c.self.inside.sum in
    let t : ℤ = c.sum_of_values.result in
    let added : IsSpread m t wide_extremes = subst (λ z. IsSpread m z wide_extremes) (sym c.sum_of_values.ensures.value) c.sum_of_values.ensures.spread in
    let few : n + m ≤ 2 ^ 62 = search rules in
    let sum = summed-both n m s t c.self.invariant.1 added few ∙ ap (λ z. s +ℤ z) c.sum_of_values.ensures.value in
    ap (λ z. record { count = n + m; sum = z; extremes = Some wide_extremes }) sum ∙ sym (merged-summed n s ps)
    ∙ ap (λ (a : Aggregate). part_with CountAndSum a ps) c.self.view_is
