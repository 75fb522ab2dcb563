use Rattle.std.proofs.Common.{ap, ◌∙◌}
use Rattle.std.proofs.lemmas.Result.{IfOk-weaker}
use Rattle.ts_core.specs.facts.Latest.{latest_of}
use Rattle.ts_check.specs.Checks.{Plan}
use Rattle.ts_reply.specs.Outcomes.{rows_over}
use Rattle.ts_reply.proofs.Answered.{plan_faultless}
use Rattle.ts_reply.proofs.answering.rows_by_plan.Goals as goal

pub unreachable-requires : goal.unreachable-requires
unreachable-requires g c =
    plan_faultless c.args.store.now c.settings.result.now c.marks.result.now c.args.query.now c.args.plan.now c.check.result c.in-Err-Fault.field-0 c.in-Err-Fault.field-0-0
    c.settings.ensures.value c.marks.ensures.value c.requires c.check.ensures c.in-Err-Fault.is c.in-Err-Fault.field-0-is

pub returns-in-Ok : goal.returns-in-Ok
returns-in-Ok g c =
    let select = ap (λ (p : Plan). p.select) c.in-Ok.ensures.0 in
    IfOk-weaker c.rows_of.result _ _ (λ r e opening h stands. e opening h stands ∙ ap (rows_over (latest_of h)) select) c.rows_of.ensures
