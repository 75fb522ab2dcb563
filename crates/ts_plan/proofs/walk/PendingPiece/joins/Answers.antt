use Rattle.std.proofs.Common.{rules, ◌≡◌, ◌∙◌, sym, ap, ap₂, ◌&&◌, ◌||◌}
use Rattle.ts_core.specs.plans.Faults.{is_in_one_bucket}
use Rattle.ts_plan.proofs.BucketJoins.{nat_eq_true, nat_eq_false, join_is}
use Rattle.ts_plan.proofs.walk.PendingPiece.joins.Goals as goal

pub returns-then-self : goal.returns-then-self
returns-then-self g c =
    let t = c.args.context.now in
    let h = c.args.self.now in
    let s = c.args.step.now in
    c.if-self.true
    ∙ sym (ap₂ (λ a b. a && (b || is_in_one_bucket t.query h.from s.to)) (nat_eq_true h.rule s.rule c.if-self-step.true) c.if-self.true)
    ∙ join_is t h s c.requires.plannable c.requires.pending c.requires.step

pub returns-else-self : goal.returns-else-self
returns-else-self g c =
    let t = c.args.context.now in
    let h = c.args.self.now in
    let s = c.args.step.now in
    let one : c.is_in_one_bucket.result ≡ is_in_one_bucket t.query h.from s.to = search rules in
    one
    ∙ sym (ap₂ (λ a b. a && (b || is_in_one_bucket t.query h.from s.to)) (nat_eq_true h.rule s.rule c.if-self-step.true) c.if-self.false)
    ∙ join_is t h s c.requires.plannable c.requires.pending c.requires.step

pub returns-else-self-step : goal.returns-else-self-step
returns-else-self-step g c =
    let t = c.args.context.now in
    let h = c.args.self.now in
    let s = c.args.step.now in
    let apart = nat_eq_false h.rule s.rule c.if-self-step.false in
    apart
    ∙ sym (ap (λ a. a && (h.aligned || is_in_one_bucket t.query h.from s.to)) apart)
    ∙ join_is t h s c.requires.plannable c.requires.pending c.requires.step
