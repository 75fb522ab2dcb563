-- Values of outcomes and of certificates in memory. (Own rules.)
use Rattle.std.specs.Borrow.{Bor}
use Rattle.std.specs.Prelude.{Option, option_map, string_bytes}
use Rattle.ts_core.specs.facts.Facts.{Text}
use Rattle.ts_reply.specs.declared.reply.Outcome as declared
use Rattle.ts_reply.specs.declared.reply.Outcome.TheVariants as variants
use Rattle.ts_reply.specs.Outcomes.{Outcome, Certificate, Fault, rows_outcome}

abbrev pub outcome_view : {A : Type 0} → declared.Outcome A → Outcome
outcome_view (variants.Rows rows) = rows_outcome rows
outcome_view (variants.Certificate text) = Certificate (string_bytes text)
outcome_view (variants.Fault fault) = Fault (string_bytes fault)

abbrev pub given_text : Option (Bor Text) → Option Text
given_text certificate = option_map (λ (text : Bor Text). text.now) certificate
