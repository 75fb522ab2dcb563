use Rattle.std.proofs.Common.{◌∙◌, ap, sym, pos, Some, ℕ, string_bytes}
use Rattle.std.proofs.lemmas.Result.{IfOk-weaker}
use Rattle.ts_core.specs.facts.Durations.{keeping_of}
use Rattle.tsdb.proofs.SettingsShownLemmas.{keeping_shown, for_ever_shown}
use Rattle.tsdb.proofs.duration_text.keeping_text.Goals as goal

pub returns-then-nanos-eq0 : goal.returns-then-nanos-eq0
returns-then-nanos-eq0 c = IfOk-weaker c.from_str.result _ _ (λ text is. ap keeping_of is ∙ for_ever_shown ∙ ap (λ (n : ℕ). Some (pos n)) (sym c.if-nanos-eq0.true)) c.from_str.ensures.ok

pub returns : goal.returns
returns c = IfOk-weaker c.duration_text.result _ _ (λ text is. keeping_shown (string_bytes text) c.args.nanos is c.requires) c.duration_text.ensures
