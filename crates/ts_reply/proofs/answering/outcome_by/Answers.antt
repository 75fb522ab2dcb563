use Rattle.std.proofs.Common.{ap, ◌∙◌, Err, string_bytes}
use Rattle.ts_check.specs.CheckTexts.{check_fault_text}
use Rattle.ts_reply.specs.Outcomes.{Fault, rows_outcome}
use Rattle.ts_reply.proofs.Answered.{checked_rows, checked_fault}
use Rattle.ts_reply.proofs.answering.outcome_by.Goals as goal

pub returns-in_ok-rows_of-in-Ok : goal.returns-in_ok-rows_of-in-Ok
returns-in_ok-rows_of-in-Ok g c =
    checked_rows c.args.store.now c.settings.result.now c.marks.result.now c.args.query.now c.args.certificate.now c.check.result c.in-Ok.checked (rows_outcome c.in_ok-rows_of-in-Ok.field-0)
    c.settings.ensures.shows c.settings.ensures.value c.marks.ensures.value c.check.ensures c.in-Ok.is c.in_ok-rows_of-in-Ok.ensures

pub returns-in_ok-check_fault_text-in-Err-Fault : goal.returns-in_ok-check_fault_text-in-Err-Fault
returns-in_ok-check_fault_text-in-Err-Fault g c =
    checked_fault c.args.store.now c.settings.result.now c.marks.result.now c.args.query.now c.args.certificate.now c.check.result c.in-Err-Fault.fault (Fault (string_bytes c.in_ok-check_fault_text-in-Err-Fault.field-0))
    c.settings.ensures.shows c.settings.ensures.value c.marks.ensures.value c.check.ensures (c.in-Err-Fault.is ∙ ap Err c.in-Err-Fault.field-0-is)
    (ap Fault (c.in_ok-check_fault_text-in-Err-Fault.ensures ∙ ap check_fault_text c.in-Err-Fault.fault-is))
