use Rattle.std.proofs.Common.{List, subst, sym, ap, ◌∙◌, false, string_bytes}
use Rattle.std.proofs.lemmas.Result.{IfOk-weaker}
use Rattle.ts_core.specs.facts.Facts.{Text}
use Rattle.ts_ql.specs.Laws.{Explained}
use Rattle.ts_ql.specs.QueryFaults.{as_fault}
use Rattle.ts_ql.specs.QueryFaultText.{query_fault_text}
use Rattle.ts_ql.specs.Selects.{Select}
use Rattle.ts_reply.specs.Answering.{IsReplyTo, IsReply, read, bad}
use Rattle.ts_reply.specs.Replies.{refusal_reply_text}
use Rattle.ts_reply.specs.OutcomeViews.{given_text}
use Rattle.ts_reply.proofs.answering.answer.Goals as goal

pub returns-in-Ok : goal.returns-in-Ok
returns-in-Ok g c =
    IfOk-weaker c.reply_to.result _ _
    (λ r e opening h stands.
    read c.in-Ok.queries.items r.good (string_bytes r.body) c.in-Ok.ensures.reading.tells
    (subst (λ (ss : List Select). IsReplyTo opening h ss (given_text c.args.certificate) c.args.epoch r.good (string_bytes r.body)) c.as_slice.ensures.value (e opening h stands)))
    c.reply_to.ensures

pub returns-in_ok-body-in-Err-Fault : goal.returns-in_ok-body-in-Err-Fault
returns-in_ok-body-in-Err-Fault g c = λ opening h stands.
    subst (λ (body : Text). IsReply opening h c.args.now c.args.text.now (given_text c.args.certificate) c.args.epoch false body) (sym (c.in_ok-body-in-Err-Fault.ensures ∙ ap (λ fault. refusal_reply_text (query_fault_text (as_fault fault))) c.in-Err-Fault.fault-is))
    (bad (as_fault c.in-Err-Fault.fault) (subst (Explained c.args.now c.args.text.now) c.in-Err-Fault.field-0-is c.in-Err-Fault.ensures.reading.tells))
