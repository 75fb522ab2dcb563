use Rattle.std.proofs.Common.{List, map, subst, sym, ap, ◌∙◌, string_bytes, false}
use Rattle.ts_core.specs.facts.Facts.{Text}
use Rattle.ts_ql.specs.Laws.{Explained}
use Rattle.ts_ql.specs.QueryFaults.{as_fault}
use Rattle.ts_ql.specs.QueryFaultText.{query_fault_text}
use Rattle.ts_ql.specs.Selects.{Select}
use Rattle.ts_reply.specs.Answering.{AreOutcomes}
use Rattle.ts_reply.specs.declared.epoch.Epoch.TheVariants.{Text as AsText}
use Rattle.ts_reply.specs.Explaining.{IsExplained, IsExplanation, good, bad}
use Rattle.ts_reply.specs.Replies.{TellsOutcomes, refusal_reply_text}
use Rattle.ts_reply.specs.OutcomeViews.{outcome_view}
use Rattle.ts_reply.proofs.explaining.explain.Goals as goal

pub returns-in_ok-body-in-Ok : goal.returns-in_ok-body-in-Ok
returns-in_ok-body-in-Ok g c = λ opening h stands.
    let outcomes = c.in_ok-outcomes-in-Ok.outcomes.items in
    good (string_bytes c.in_ok-body-in-Ok.body) c.in-Ok.queries.items (map outcome_view outcomes)
    c.in-Ok.ensures.reading.tells
    (subst (λ (ss : List Select). AreOutcomes (IsExplained opening h) ss (map outcome_view outcomes)) c.as_slice.ensures.value (c.in_ok-outcomes-in-Ok.ensures opening h stands))
    (subst (λ xs. TellsOutcomes AsText (map outcome_view xs) (string_bytes c.in_ok-body-in-Ok.body)) c.as_slice-in-Ok.ensures.value c.in_ok-body-in-Ok.ensures)

pub returns-in_ok-body-in-Err-Fault : goal.returns-in_ok-body-in-Err-Fault
returns-in_ok-body-in-Err-Fault g c = λ opening h stands.
    subst (λ (body : Text). IsExplanation opening h c.args.now c.args.text.now false body) (sym (c.in_ok-body-in-Err-Fault.ensures ∙ ap (λ fault. refusal_reply_text (query_fault_text (as_fault fault))) c.in-Err-Fault.fault-is))
    (bad (as_fault c.in-Err-Fault.fault) (subst (Explained c.args.now c.args.text.now) c.in-Err-Fault.field-0-is c.in-Err-Fault.ensures.reading.tells))
