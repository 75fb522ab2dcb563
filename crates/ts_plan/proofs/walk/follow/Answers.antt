use Rattle.std.proofs.Common.{◌≡◌, ◌∙◌, sym, refl, subst, true}
use Rattle.ts_plan.specs.Steps.{bucket_piece}
use Rattle.ts_plan.specs.Joins.{ArePending, pending_piece, joins}
use Rattle.ts_plan.proofs.BucketJoins.{join_pending}
use Rattle.ts_plan.proofs.walk.follow.Goals as goal

pub returns-then-joins-clause-pending : goal.returns-then-joins-clause-pending
returns-then-joins-clause-pending g c =
    let t = c.args.context.now in
    let h = c.in-Some.pending in
    let s = c.args.step.now in
    let same : joins t (pending_piece t h) (bucket_piece t s) ≡ true = sym c.joins.ensures ∙ c.if-joins.true in
    join_pending t h _ s c.requires.plannable (subst (ArePending t) c.in-Some.is c.requires.pending) refl same
