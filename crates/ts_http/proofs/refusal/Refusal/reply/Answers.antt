use Rattle.std.proofs.Common.{◌≡◌, ◌∙◌, ap, Some}
use Rattle.ts_http.specs.HttpReplies.{reply_text, error_json, refusal_message}
use Rattle.ts_http.proofs.refusal.Refusal.reply.Goals as goal

pub returns : goal.returns
returns c =
    let body : c.deref.result.now ≡ error_json (refusal_message c.args.self) = c.deref.ensures.0 ∙ c.error_body.ensures.bytes ∙ ap error_json c.message.ensures.value in
    rw c.if-to_head.false (c.short_reply.ensures ∙ (λ i. reply_text (c.status-2.ensures i) (c.allow-2.ensures.value i) (Some (body i))))
