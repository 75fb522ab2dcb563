use Rattle.std.proofs.Common.{rules, ◌≡◌, ◌<ℤ◌, subst, to_z, of_z, w64}
use Rattle.ts_plan.proofs.WalkSteps.{le_not}
use Rattle.ts_plan.proofs.TooMany.{IsTooMany-told}
use Rattle.ts_plan.proofs.too_many.is_too_many.Goals as goal

pub returns : goal.returns
returns g c =
    let q = c.args.query.now.query in
    let m = c.args.marks.now in
    let from : to_z w64 (of_z w64 c.from-from.result) ≡ q.from = search rules in
    let to : to_z w64 (of_z w64 c.to.result) ≡ q.to = search rules in
    let raw : to_z w64 (of_z w64 c.nanos.result) ≡ m.raw = search rules in
    let below : q.from <ℤ m.raw = subst (λ x. x <ℤ m.raw) from (subst (λ x. to_z w64 (of_z w64 c.from-from.result) <ℤ x) raw (le_not _ _ c.if-from-nanos.false)) in
    let some : q.from <ℤ q.to = subst (λ x. x <ℤ q.to) from (subst (λ x. to_z w64 (of_z w64 c.from-from.result) <ℤ x) to (le_not _ _ c.if-from-to.false)) in
    IsTooMany-told c.args.settings.now m q c.rules.result.now c.have_more_than.result c.rules.ensures.value below some c.have_more_than.ensures
