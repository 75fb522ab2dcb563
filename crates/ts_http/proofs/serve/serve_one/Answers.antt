use Rattle.std.proofs.Common.{◌≡◌, ◌∙◌, ◌++◌, ap, sym, subst, arith, refl, Err, take, drop, unwrap_or, [], append_assoc}
use Rattle.std.proofs.KnownBytes.{Consumes-trans}
use Rattle.std.proofs.lemmas.Result.{err_from_is_err_and}
use Rattle.ts_core.specs.facts.Facts.{Text}
use Rattle.ts_http.specs.Heads.{IsWholeHead}
use Rattle.ts_http.specs.HeadsRead.{request_of, TellsHead}
use Rattle.ts_http.specs.Requested.{Refuses, Asks}
use Rattle.ts_http.specs.declared.outcome.RequestOutcome.TheVariants as outcomes
use Rattle.ts_http.specs.declared.refusal.Refusal.TheVariants as refusals
use Rattle.ts_http.specs.declared.route.Route.TheVariants as to
use Rattle.ts_http.proofs.ServeLemmas.{spans_within, asks_refused, asks_taken, whole_more, read_failed, nothing_served, refusal_told, sent_told}
use Rattle.ts_http.proofs.serve.serve_one.Goals as goal

pub returns-in_err-count-clause-served : goal.returns-in_err-count-clause-served
returns-in_err-count-clause-served g c =
    let p = err_from_is_err_and c.from_residual.result c.from_residual.ensures.1 in
    let r = c.in_err-count.ensures.head in
    read_failed c.args.now c.args.store.now c.args.store.now c.args.source.now c.read_head.new.source c.args.sink.now c.from_residual.result (p.1 ∙ ap Err p.2) refl r.failures (omega (arith, r.reads))

pub body_len-requires : goal.body_len-requires
body_len-requires g c =
    let came = take c.in_ok-count.count c.read_head.new.buffer in
    let told = subst (TellsHead (request_of came c.read_head.new.source) came c.read_head.new.spans) c.in-Whole.is c.in_ok-count.ensures.head.head in
    spans_within came c.read_head.new.spans c.in-Whole.found told.0

pub returns-in_err-outcome-in-Ok-clause-served : goal.returns-in_err-outcome-in-Ok-clause-served
returns-in_err-outcome-in-Ok-clause-served g c =
    let p = err_from_is_err_and c.from_residual-in_err-outcome-in-Ok.result c.from_residual-in_err-outcome-in-Ok.ensures.1 in
    let h = c.in_ok-count.ensures.head in
    let a = c.in_err-outcome-in-Ok.ensures.acted in
    read_failed c.args.now c.args.store.now c.act_on_body.new.store c.args.source.now c.act_on_body.new.source c.args.sink.now c.from_residual-in_err-outcome-in-Ok.result (p.1 ∙ ap Err p.2) a.unread (omega (arith, h.failures, a.failures)) (omega (arith, h.reads, a.reads, c.in-Ok.ensures.2))

pub returns-in-Nothing-clause-served : goal.returns-in-Nothing-clause-served
returns-in-Nothing-clause-served g c =
    let h = c.in_ok-count.ensures.head in
    let came = take c.in_ok-count.count c.read_head.new.buffer in
    let told = subst (TellsHead (request_of came c.read_head.new.source) came c.read_head.new.spans) c.in-Nothing.is h.head in
    nothing_served c.args.now c.args.store.now c.args.source.now c.read_head.new.source c.args.sink.now came h.bytes told (omega (arith, h.failures)) (omega (arith, h.reads))

pub returns-in-Fault-clause-served : goal.returns-in-Fault-clause-served
returns-in-Fault-clause-served g c =
    let h = c.in_ok-count.ensures.head in
    let came = take c.in_ok-count.count c.read_head.new.buffer in
    let told = subst (TellsHead (request_of came c.read_head.new.source) came c.read_head.new.spans) c.in-Fault.is h.head in
    sent_told c.args.now c.args.store.now c.args.store.now c.args.source.now c.read_head.new.source c.args.sink.now c.reply.new.sink (outcomes.Refused (refusals.Head c.in-Fault.fault)) to.Other _ came c.reply.result c.reply.ensures h.bytes
    (refusal_told c.args.now (request_of came c.read_head.new.source) _ _ to.Other c.args.store.now (refusals.Head c.in-Fault.fault) (Asks.no_head c.in-Fault.fault told)) (omega (arith, h.failures)) (omega (arith, h.reads))

pub returns-in-Err-clause-served : goal.returns-in-Err-clause-served
returns-in-Err-clause-served g c =
    let h = c.in_ok-count.ensures.head in
    let came = take c.in_ok-count.count c.read_head.new.buffer in
    let spans = c.read_head.new.spans in
    let bytes = request_of came c.read_head.new.source in
    let found = c.in-Whole.found in
    let q = c.head_parts_of-head in
    let told = subst (TellsHead bytes came spans) c.in-Whole.is h.head in
    let asks = asks_refused came spans found told.1.0 told.1.1 bytes (drop found.len bytes) q.result.route q.result.method c.in-Err.refusal told.1.2 q.ensures.route q.ensures.method c.in-Err.ensures in
    sent_told c.args.now c.args.store.now c.args.store.now c.args.source.now c.read_head.new.source c.args.sink.now c.reply-in-Err.new.sink (outcomes.Refused c.in-Err.refusal) q.result.route c.is_head.result came c.reply-in-Err.result c.reply-in-Err.ensures h.bytes
    (refusal_told c.args.now bytes _ c.is_head.result q.result.route c.args.store.now c.in-Err.refusal (subst (λ b. Asks bytes (Refuses c.in-Err.refusal q.result.route b)) (sym c.is_head.ensures) asks)) (omega (arith, h.failures)) (omega (arith, h.reads))

pub returns-in_ok-outcome-in-Ok-clause-served : goal.returns-in_ok-outcome-in-Ok-clause-served
returns-in_ok-outcome-in-Ok-clause-served g c =
    let h = c.in_ok-count.ensures.head in
    let a = c.in_ok-outcome-in-Ok.ensures.acted in
    let came = take c.in_ok-count.count c.read_head.new.buffer in
    let spans = c.read_head.new.spans in
    let found = c.in-Whole.found in
    let q = c.head_parts_of-head in
    let source = c.act_on_body.new.source in
    let told = subst (TellsHead (request_of came c.read_head.new.source) came spans) c.in-Whole.is h.head in
    let got = a.acted.0 in
    let more = got ++ unwrap_or source.remaining [] in
    let whole : IsWholeHead (request_of (came ++ got) source) told.1.0 (q.result.after.now ++ more) =
    subst (λ (b : Text). IsWholeHead b told.1.0 (q.result.after.now ++ more)) (sym (append_assoc came got (unwrap_or source.remaining [])))
    (subst (λ (b : Text). IsWholeHead (came ++ more) told.1.0 (b ++ more)) (sym q.ensures.after) (whole_more came more _ _ spans found told.1.0 told.1.1 told.1.2)) in
    sent_told c.args.now c.args.store.now c.act_on_body.new.store c.args.source.now source c.args.sink.now c.reply-in-Ok.new.sink c.in_ok-outcome-in-Ok.outcome q.result.route _ (came ++ got) c.reply-in-Ok.result c.reply-in-Ok.ensures
    (Consumes-trans c.args.source.now.remaining c.read_head.new.source.remaining source.remaining came got h.bytes a.acted.1)
    (asks_taken came spans found told.1.0 told.1.1 (request_of (came ++ got) source) (q.result.after.now ++ more) c.args.now q.result.route q.result.method q.result.query.now c.in-Ok.len (source.ends ≡ c.read_head.new.source.ends) (source.ends ≡ c.args.source.now.ends) c.args.store.now c.act_on_body.new.store c.in_ok-outcome-in-Ok.outcome whole
    q.ensures.route q.ensures.method q.ensures.query c.in-Ok.ensures.0 c.in-Ok.ensures.1 (λ quiet. quiet ∙ rw c.in-Whole.is at h.ends) a.acted.2)
    (omega (arith, h.failures, a.failures)) (omega (arith, h.reads, a.reads, c.in-Ok.ensures.2))
