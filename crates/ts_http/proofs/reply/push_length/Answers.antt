use Rattle.std.proofs.Common.{◌++◌, ◌∙◌, ap, decimal}
use Rattle.ts_core.specs.facts.Facts.{Text}
use Rattle.ts_http.proofs.ReplyLemmas.{three_put}
use Rattle.ts_http.proofs.reply.push_length.Goals as goal

pub returns-clause-bytes : goal.returns-clause-bytes
returns-clause-bytes c =
    rw c.in-Some.is (three_put c.args.reply.now.bytes _ (decimal c.in-Some.len) _ c.push_str.new.self.bytes c.push_str-2.new.self.bytes c.push_str-3.new.self.bytes c.push_str.ensures.bytes (c.push_str-2.ensures.bytes ∙ ap (λ (t : Text). c.push_str.new.self.bytes ++ t) c.format.ensures.text) c.push_str-3.ensures.bytes)
