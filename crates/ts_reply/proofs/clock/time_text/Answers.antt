use Rattle.std.proofs.Common.{string_bytes}
use Rattle.std.proofs.lemmas.Result.{IfOk-weaker}
use Rattle.ts_reply.proofs.OneText.{one_text}
use Rattle.ts_reply.proofs.clock.time_text.Goals as goal

pub returns-clause-text : goal.returns-clause-text
returns-clause-text g c =
    IfOk-weaker c.format.result _ _ (λ s e. record { clock = c.clock-clock.result; shows = c.clock-clock.ensures; written = e }) c.format.ensures.ok

pub returns-clause-alone : goal.returns-clause-alone
returns-clause-alone g c = λ other is.
    IfOk-weaker c.format.result _ _ (λ s e. one_text c.args.time (string_bytes s) other (record { clock = c.clock-clock.result; shows = c.clock-clock.ensures; written = e }) is) c.format.ensures.ok
