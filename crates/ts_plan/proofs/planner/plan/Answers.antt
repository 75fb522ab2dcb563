use Rattle.std.proofs.Common.{sym, subst, FitsSigned, w64, rules}
use Rattle.ts_core.specs.plans.Plans.{IsPlanOf}
use Rattle.ts_plan.specs.Planning.{IsPlanned}
use Rattle.ts_plan.proofs.Planned.{untrue, planned_of}
use Rattle.ts_plan.proofs.Spellings.{plan_spelled}
use Rattle.ts_plan.proofs.planner.plan.Goals as goal

pub new-requires : goal.new-requires
new-requires g c =
    let s = c.args.settings.now in
    let m = c.args.marks.now in
    let q = c.args.query.now.query in
    let ps = c.in-Some.pieces.items in
    let made : IsPlanOf c.query_context-context.result ps = rw c.in-Some.is at c.in_ok-plan_over.ensures in
    let plan = planned_of s m q c.query_context-context.result ps c.query_context-context.ensures.value c.query_context-context.ensures.plannable.wide (untrue _ c.is_too_many.ensures c.if-is_too_many.false) made in
    let from : FitsSigned w64 c.from-from.result = search rules in
    let to : FitsSigned w64 c.to-to.result = search rules in
    plan_spelled s m q ps c.rules-rules.ensures.faultless (subst (FitsSigned w64) c.from-from.ensures.value from) (subst (FitsSigned w64) c.to-to.ensures.value to) plan.valid

pub returns : goal.returns
returns g c =
    let s = c.args.settings.now in
    let m = c.args.marks.now in
    let q = c.args.query.now.query in
    let ps = c.in-Some.pieces.items in
    let made : IsPlanOf c.query_context-context.result ps = rw c.in-Some.is at c.in_ok-plan_over.ensures in
    let plan = planned_of s m q c.query_context-context.result ps c.query_context-context.ensures.value c.query_context-context.ensures.plannable.wide (untrue _ c.is_too_many.ensures c.if-is_too_many.false) made in
    subst (IsPlanned s m q) (sym c.new.ensures) plan
