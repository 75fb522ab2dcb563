use Rattle.std.proofs.Common.{rules, ◌+◌, ◌^◌, ◌≤◌, ℕ}
use Rattle.ts_core.specs.aggregates.Aggregates.{IsSpread}
use Rattle.ts_exec.specs.RowParts.{wide_extremes}
use Rattle.ts_exec.proofs.Folded.{spread-both}
use Rattle.ts_exec.proofs.fold.SummedFold.with_part.Goals as goal

pub invariant_of-result : goal.invariant_of-result
invariant_of-result c =
    let n : ℕ = c.self.inside.count in
    let m : ℕ = c.count.result in
    let part : IsSpread m c.sum_of.result wide_extremes = search rules in
    let few : n + m ≤ 2 ^ 62 = search rules in
    (few, spread-both n m c.self.inside.sum c.sum_of.result c.self.invariant.1 part few)
