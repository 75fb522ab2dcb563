use Rattle.std.proofs.Common.{rules, ◌≡◌, ◌∙◌, ℤ, pos, ◌-ℤ◌, ◌^◌, ◌≤◌, unsigned_abs, ap, ap₂, sym, subst, arith, SFits, to_z, of_z, to_z-of_z}
use Rattle.std.specs.Int.{w128}
use Rattle.std.proofs.lemmas.Int.{ints}
use Rattle.ts_core.specs.queries.Answers.{at_least_none}
use Rattle.ts_core.specs.store.Marks.{index_of}
use Rattle.ts_plan.proofs.TooMany.{near_at, near_before, gap_fits, less_fits}
use Rattle.ts_plan.proofs.too_many.whole_between.Goals as goal

pub overflow_sub-last : goal.overflow_sub-last
overflow_sub-last g c =
    let last : ℤ = to_z w128 (of_z w128 c.index_of-last.result) in
    let first : ℤ = to_z w128 (of_z w128 c.index_of-first.result) in
    let n = c.index_of-last.ensures.near in
    let k = c.index_of-first.ensures.near in
    gap_fits last first (omega (arith, ints)) (omega (arith, ints))

pub overflow_sub-last-2 : goal.overflow_sub-last-2
overflow_sub-last-2 g c =
    let last : ℤ = to_z w128 (of_z w128 c.index_of-last.result) in
    let first : ℤ = to_z w128 (of_z w128 c.index_of-first.result) in
    let n = c.index_of-last.ensures.near in
    let k = c.index_of-first.ensures.near in
    let a : unsigned_abs last ≤ 2 ^ 66 = omega (arith, ints) in
    let b : unsigned_abs first ≤ 2 ^ 66 = omega (arith, ints) in
    subst (λ x. SFits w128 (x -ℤ pos 1)) (sym (to_z-of_z (gap_fits last first a b))) (less_fits last first a b)

pub returns : goal.returns
returns g c =
    let r = c.args.rule.now in
    let last : ℤ = to_z w128 (of_z w128 c.index_of-last.result) in
    let first : ℤ = to_z w128 (of_z w128 c.index_of-first.result) in
    let p : SFits w128 c.index_of-last.result = search rules in
    let q : SFits w128 c.index_of-first.result = search rules in
    let t : to_z w128 (of_z w128 c.from.result) ≡ c.args.to = search rules in
    let u : to_z w128 (of_z w128 (to_z w128 (of_z w128 c.from-2.result) -ℤ pos 1)) ≡ c.args.from -ℤ pos 1 = search rules in
    let a = near_at last c.index_of-last.result _ c.args.to (to_z-of_z p) t c.ranges.to c.index_of-last.ensures.near in
    let b = near_before first c.index_of-first.result _ c.args.from (to_z-of_z q) u c.ranges.from c.index_of-first.ensures.near in
    let l : last ≡ index_of r c.args.to = search rules in
    let f : first ≡ index_of r (c.args.from -ℤ pos 1) = search rules in
    let gap = to_z-of_z (gap_fits last first a b) in
    let less = to_z-of_z (subst (λ x. SFits w128 (x -ℤ pos 1)) (sym gap) (less_fits last first a b)) in
    c.at_least_none.ensures ∙ ap at_least_none (less ∙ ap (λ x. x -ℤ pos 1) gap ∙ ap₂ (λ x y. (x -ℤ y) -ℤ pos 1) l f)
