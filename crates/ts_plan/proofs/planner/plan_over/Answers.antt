use Rattle.std.proofs.Common.{rules, ◌≡◌, ◌∙◌, sym, subst, ap, List, true, false}
use Rattle.std.specs.List.{AllByRecursion}
use Rattle.ts_core.specs.plans.Plans.{IsPlanOf, joined}
use Rattle.ts_plan.specs.declared.steps.Step.{Step}
use Rattle.ts_plan.specs.Steps.{IsStep, Ascends, pruned_steps, reaches_end, walked}
use Rattle.ts_plan.proofs.Pruning.{kept_good, steps_of_good}
use Rattle.ts_plan.proofs.StepPlans.{plan_made, plan_none}
use Rattle.ts_plan.proofs.Searches.{kept_ascends}
use Rattle.ts_plan.proofs.planner.plan_over.Goals as goal

pub reaches_end-requires : goal.reaches_end-requires
reaches_end-requires g c =
    subst Ascends (sym (c.steps_from-kept.ensures ∙ c.prune_steps-begin.ensures.kept)) (kept_ascends c.args.context.now c.args.steps.now c.requires.order)

pub returns-then-not-reaches_end : goal.returns-then-not-reaches_end
returns-then-not-reaches_end g c =
    let t = c.args.context.now in
    let e : c.steps_from-kept.result.now ≡ pruned_steps t c.args.steps.now = c.steps_from-kept.ensures ∙ c.prune_steps-begin.ensures.kept in
    let no : reaches_end t c.steps_from-kept.result.now t.query.from ≡ false = search rules in
    plan_none t c.args.steps.now c.requires.plannable c.start.ensures.range c.requires.sound c.requires.complete c.requires.order (subst (λ (z : List Step). reaches_end t z t.query.from ≡ false) e no)

pub walk-requires-clause-steps : goal.walk-requires-clause-steps
walk-requires-clause-steps g c =
    let t = c.args.context.now in
    let e : c.steps_from-kept.result.now ≡ pruned_steps t c.args.steps.now = c.steps_from-kept.ensures ∙ c.prune_steps-begin.ensures.kept in
    subst (λ (z : List Step). AllByRecursion (IsStep t) z) (sym e) (steps_of_good t (pruned_steps t c.args.steps.now) (kept_good t c.args.steps.now c.requires.plannable c.requires.sound))

pub returns : goal.returns
returns g c =
    let t = c.args.context.now in
    let e : c.steps_from-kept.result.now ≡ pruned_steps t c.args.steps.now = c.steps_from-kept.ensures ∙ c.prune_steps-begin.ensures.kept in
    let yes : reaches_end t c.steps_from-kept.result.now t.query.from ≡ true = search rules in
    let p = plan_made t c.args.steps.now c.requires.plannable c.start.ensures.range c.requires.sound c.requires.complete c.requires.order (subst (λ (z : List Step). reaches_end t z t.query.from ≡ true) e yes) in
    subst (IsPlanOf t) (sym (c.in_ok-walk.ensures ∙ ap (λ (z : List Step). joined t (walked t t.query.from z)) e)) p
