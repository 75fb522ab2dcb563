use Rattle.std.proofs.Common.{true, ap, subst, sym}
use Rattle.ts_core.specs.facts.Facts.{Text}
use Rattle.ts_http.specs.Acts.{answer_reply}
use Rattle.ts_http.specs.OutcomeReplies.{AddsAs}
use Rattle.ts_http.specs.declared.outcome.RequestOutcome.TheVariants.{Brief, Refused}
use Rattle.ts_http.specs.declared.refusal.Refusal.TheVariants as refusals
use Rattle.ts_http.specs.declared.status.Status.TheVariants.{Success}
use Rattle.ts_http.proofs.RuleLemmas.{add_no_memory, add_refused, was_added}
use Rattle.ts_http.proofs.rules.add_text.Goals as goal

pub returns-in-Ok : goal.returns-in-Ok
returns-in-Ok g c = was_added c.args.text.now c.args.store.now c.utf8.text c.add_rule_text.new.self c.in-Ok.added (Brief Success c.added_body.result) c.in-Ok.ensures (ap (λ (t : Text). answer_reply true t) c.added_body.ensures)

pub returns-in-Err-Fault : goal.returns-in-Err-Fault
returns-in-Err-Fault g c =
    let told = rw c.in-Err-Fault.field-0-is at c.in-Err-Fault.ensures in
    subst (AddsAs c.args.text.now c.args.store.now c.refused.result) (sym told.1) (add_refused c.args.text.now c.args.store.now c.utf8.text c.in-Err-Fault.fault c.refused.result told.0 c.refused.ensures)

pub returns-in-Err-OutOfMemory : goal.returns-in-Err-OutOfMemory
returns-in-Err-OutOfMemory g c = subst (AddsAs c.args.text.now c.args.store.now (Refused refusals.OutOfMemory)) (sym c.in-Err-OutOfMemory.ensures.1) (add_no_memory c.args.text.now c.args.store.now c.utf8.text)
