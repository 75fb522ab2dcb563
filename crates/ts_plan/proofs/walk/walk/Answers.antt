use Rattle.std.proofs.Common.{rules, ◌≡◌, ◌∙◌, suc, ◌+◌, ◌∷◌, drop, drop-cons, add-one, ap, sym}
use Rattle.ts_plan.proofs.walk.walk.Goals as goal
use Rattle.ts_plan.proofs.walk.walk.Goals.{then-eq+in_ok-follow, else-eq}

pub loop-step-preserved : goal.loop-step-preserved
loop-step-preserved g c =
    let i = c.loop-step.step-index in
    let s = c.step-item.result in
    let next : drop i c.args.steps.now ≡ s ∷ drop (i + 1) c.args.steps.now = rw add-one (drop-cons c.args.steps.now i s c.loop-step-test.true ∙ ap (λ x. x ∷ drop (suc i) c.args.steps.now) (sym c.step-item.is)) in
    let left = rw next at c.loop-step.invariant.left in
    let walked = rw next at c.loop-step.invariant.walked in
    elim c.if-eq.branch [
      | then-eq+in_ok-follow w ↦ record { pending = search rules; left = left.1; walked = search rules }
      | else-eq w ↦ record { pending = search rules; left = left.1; walked = search rules }
    ]
