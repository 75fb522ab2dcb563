use Rattle.std.proofs.Common.{rules, ◌≡◌, to_z, of_z, arith}
use Rattle.std.specs.Int.{w128}
use Rattle.std.proofs.lemmas.Int.{ints}
use Rattle.ts_plan.proofs.steps.push_step.Goals as goal

pub checked_add-requires-clause-forward : goal.checked_add-requires-clause-forward
checked_add-requires-clause-forward g c =
    let e : to_z w128 (of_z w128 c.from-width.result) ≡ c.args.marked.now.rule.interval = search rules in
    let w = c.requires.rule in
    omega (arith, ints)
