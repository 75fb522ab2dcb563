use Rattle.std.proofs.Common.{ap, ◌∙◌, Err, string_bytes}
use Rattle.ts_plan.specs.PlanTexts.{plan_fault_text}
use Rattle.ts_reply.specs.Outcomes.{Certificate, Fault}
use Rattle.ts_reply.proofs.Answered.{explained_plan, explained_fault}
use Rattle.ts_reply.proofs.explaining.explained.Goals as goal

pub returns-in_ok-write_certificate-in-Ok : goal.returns-in_ok-write_certificate-in-Ok
returns-in_ok-write_certificate-in-Ok g c =
    explained_plan c.args.store.now c.settings.result.now c.marks.result.now c.args.query.now c.plan.result c.in-Ok.plan (Certificate (string_bytes c.in_ok-write_certificate-in-Ok.field-0))
    c.settings.ensures.shows c.settings.ensures.value c.marks.ensures.value c.plan.ensures c.in-Ok.is (ap Certificate c.in_ok-write_certificate-in-Ok.ensures.value)

pub returns-in_ok-plan_fault_text-in-Err-Fault : goal.returns-in_ok-plan_fault_text-in-Err-Fault
returns-in_ok-plan_fault_text-in-Err-Fault g c =
    explained_fault c.args.store.now c.settings.result.now c.marks.result.now c.args.query.now c.plan.result c.in-Err-Fault.fault (Fault (string_bytes c.in_ok-plan_fault_text-in-Err-Fault.field-0))
    c.settings.ensures.shows c.settings.ensures.value c.marks.ensures.value c.plan.ensures (c.in-Err-Fault.is ∙ ap Err c.in-Err-Fault.field-0-is)
    (ap Fault (c.in_ok-plan_fault_text-in-Err-Fault.ensures ∙ ap plan_fault_text c.in-Err-Fault.fault-is))
