use Rattle.std.proofs.Common.{ap, ◌∙◌, Err, string_bytes}
use Rattle.ts_plan.specs.PlanTexts.{plan_fault_text}
use Rattle.ts_reply.specs.Outcomes.{Fault, rows_outcome}
use Rattle.ts_reply.proofs.Answered.{planned_rows, planned_fault}
use Rattle.ts_reply.proofs.answering.planned.Goals as goal

pub returns-in_ok-rows_by_plan-in-Ok : goal.returns-in_ok-rows_by_plan-in-Ok
returns-in_ok-rows_by_plan-in-Ok g c =
    planned_rows c.args.store.now c.settings.result.now c.marks.result.now c.args.query.now c.plan.result c.in-Ok.plan (rows_outcome c.in_ok-rows_by_plan-in-Ok.field-0)
    c.settings.ensures.shows c.settings.ensures.value c.marks.ensures.value c.plan.ensures c.in-Ok.is c.in_ok-rows_by_plan-in-Ok.ensures

pub returns-in_ok-plan_fault_text-in-Err-Fault : goal.returns-in_ok-plan_fault_text-in-Err-Fault
returns-in_ok-plan_fault_text-in-Err-Fault g c =
    planned_fault c.args.store.now c.settings.result.now c.marks.result.now c.args.query.now c.plan.result c.in-Err-Fault.fault (Fault (string_bytes c.in_ok-plan_fault_text-in-Err-Fault.field-0))
    c.settings.ensures.shows c.settings.ensures.value c.marks.ensures.value c.plan.ensures (c.in-Err-Fault.is ∙ ap Err c.in-Err-Fault.field-0-is)
    (ap Fault (c.in_ok-plan_fault_text-in-Err-Fault.ensures ∙ ap plan_fault_text c.in-Err-Fault.fault-is))
