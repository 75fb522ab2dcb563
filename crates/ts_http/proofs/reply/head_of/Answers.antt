use Rattle.std.proofs.Common.{◌++◌, ◌∙◌, ap}
use Rattle.ts_core.specs.facts.Facts.{Text}
use Rattle.ts_http.specs.HttpReplies.{status_text, allow_text, length_text}
use Rattle.ts_http.proofs.ReplyLemmas.{six_put}
use Rattle.ts_http.proofs.reply.head_of.Goals as goal

pub returns-clause-bytes : goal.returns-clause-bytes
returns-clause-bytes c =
    six_put c.new-reply.result.bytes _ (status_text c.args.status) _ (allow_text c.args.allow.now) (length_text c.args.len) _ c.push_str.new.self.bytes c.push_str-2.new.self.bytes c.push_str-3.new.self.bytes c.push_allow.new.reply.bytes c.push_length.new.reply.bytes c.push_str-4.new.self.bytes
    c.new-reply.ensures c.push_str.ensures.bytes (c.push_str-2.ensures.bytes ∙ ap (λ (t : Text). c.push_str.new.self.bytes ++ t) c.text.ensures.value) c.push_str-3.ensures.bytes c.push_allow.ensures.bytes c.push_length.ensures.bytes c.push_str-4.ensures.bytes
