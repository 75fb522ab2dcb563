use Rattle.std.proofs.Common.{rules, ◌≡◌, ◌+◌, ◌<◌, ◌≤◌, ◌^◌, ℕ, ℤ, arith}
use Rattle.std.proofs.lemmas.Int.{ints}
use Rattle.ts_core.specs.aggregates.Aggregates.{IsSpread}
use Rattle.ts_exec.specs.RowParts.{wide_extremes}
use Rattle.ts_exec.proofs.Folded.{spread-both}
use Rattle.ts_exec.proofs.fold.SummedFold.with.Goals as goal

pub invariant_of-result : goal.invariant_of-result
invariant_of-result c =
    let n : ℕ = c.self.inside.count in
    let v : ℤ = c.from.result in
    let value : v ≡ c.args.value = search rules in
    let count : n < 2 ^ 62 = search rules in
    let few : n + 1 ≤ 2 ^ 62 = omega arith in
    let fits = c.ranges.value in
    let one : IsSpread 1 v wide_extremes = record { some = omega arith; at_least = omega (arith, ints); at_most = omega (arith, ints) } in
    (few, spread-both n 1 c.self.inside.sum v c.self.invariant.1 one few)
