use Rattle.std.proofs.Common.{ap, ◌∙◌, subst, Err, string_bytes}
use Rattle.std.proofs.lemmas.Result.{IfOk-weaker}
use Rattle.ts_check.specs.CertificateTexts.{IsReadingOf}
use Rattle.ts_check.specs.CheckTexts.{certificate_fault_text}
use Rattle.ts_check.specs.declared.certificate_fault.ReadCertificateError.{ReadCertificateError}
use Rattle.ts_reply.specs.Answering.{spelled}
use Rattle.ts_reply.specs.Outcomes.{Fault}
use Rattle.ts_reply.specs.OutcomeViews.{outcome_view}
use Rattle.ts_reply.proofs.Answered.{certificate_fault}
use Rattle.ts_reply.proofs.answering.certified.Goals as goal

pub returns-in-Ok : goal.returns-in-Ok
returns-in-Ok g c = IfOk-weaker c.outcome_by.result _ _ (λ o e opening h stands. spelled c.in-Ok.certificate (outcome_view o) c.in-Ok.ensures.value (e opening h stands)) c.outcome_by.ensures

pub returns-in_ok-certificate_fault_text-in-Err-Fault : goal.returns-in_ok-certificate_fault_text-in-Err-Fault
returns-in_ok-certificate_fault_text-in-Err-Fault g c =
    certificate_fault c.args.store.now c.args.certificate.now c.args.query.now c.in-Err-Fault.fault (Fault (string_bytes c.in_ok-certificate_fault_text-in-Err-Fault.field-0))
    (subst (λ (e : ReadCertificateError). IsReadingOf c.args.certificate.now (Err e)) c.in-Err-Fault.field-0-is c.in-Err-Fault.ensures.value)
    (ap Fault (c.in_ok-certificate_fault_text-in-Err-Fault.ensures ∙ ap certificate_fault_text c.in-Err-Fault.fault-is))
