-- The replies to commands, by their texts. (Own rule: a fault is reported by its number.)
use Rattle.std.specs.Prelude.{ℕ, [], ◌∷◌, ◌++◌, codes, string_bytes, Result, Ok, Err}
use Rattle.std.specs.Fmt.{decimal}
use Rattle.ts_core.specs.facts.Facts.{Text}
use Rattle.ts_core.specs.text.FaultTexts.{fault_text, memory_text}
use Rattle.ts_core.specs.settings.SettingsFaults.{unknown_rule_text}
use Rattle.ts_core.specs.declared.text.fault_code.FaultCode.TheVariants as code
use Rattle.ts_core.specs.declared.text.fault_text.FaultDetail.TheVariants as detail
use Rattle.ts_plan.specs.PlanTexts.{plan_fault_text}
use Rattle.ts_reply.specs.declared.counting.CountError.{CountError}
use Rattle.ts_reply.specs.declared.counting.CountError.TheVariants as errors
use Rattle.ts_store.specs.write.LineTexts.{line_refusal_text}
use Rattle.ts_store.specs.write.StoreFaultTexts.{run_in_progress_text}
use Rattle.ts_store.specs.declared.retain.StepAnswer.{StepAnswer}
use Rattle.ts_store.specs.declared.retain.StepAnswer.TheVariants.{Moved, Done}
use Rattle.ts_store.specs.declared.write.write_text.LineOutcome.{LineOutcome}
use Rattle.ts_store.specs.declared.write.write_text.LineOutcome.TheVariants as outcome
use Rattle.ts_script.specs.declared.reply.Reply.{Reply}
use Rattle.ts_script.specs.declared.reply.Reply.TheVariants.{Nothing, Written, Stepped, Reloaded, NotAccepted, Dropped, UnknownRule, Count, Body, NoPlan, Unknown, BadRange, RunInProgress, OutOfMemory}

-- a text with the LF that ends its line
abbrev pub line : Text → Text
line text = text ++ 10 ∷ []

-- not a command
abbrev pub unknown_text : Text
unknown_text = fault_text code.UnknownCommand detail.Alone

-- a range that no query can have
abbrev pub bad_range_text : Text
bad_range_text = fault_text code.OutOfRange (detail.At 0)

-- the outcome of a line that was written: a comment or a blank line is none, and a refusal has a message
abbrev pub outcome_text : LineOutcome → Text
outcome_text outcome.Accepted = line (codes "ok")
outcome_text outcome.NoLine = line (codes "none")
outcome_text (outcome.Refused refusal) = line (line_refusal_text refusal)

-- the same of a call that may run out of memory
abbrev pub written_text : {E : Type 0} → Result LineOutcome E → Text
written_text (Ok o) = outcome_text o
written_text (Err e) = line memory_text

-- the answer of a step
abbrev pub step_text : StepAnswer → Text
step_text Moved = line (codes "moved")
step_text Done = line (codes "done")

-- the number of a count's points, or why there is none
abbrev pub count_text : Result ℕ CountError → Text
count_text (Ok n) = line (decimal n)
count_text (Err errors.BadRange) = line bad_range_text
count_text (Err (errors.NoPlan fault)) = line (plan_fault_text fault)
count_text (Err errors.OutOfMemory) = line memory_text

-- the store was saved and loaded back
abbrev pub reloaded_text : Text
reloaded_text = line (codes "ok")

-- a rule was dropped
abbrev pub dropped_text : Text
dropped_text = line (codes "ok")

abbrev pub text_of : Reply → Text
text_of Nothing = []
text_of (Written o) = outcome_text o
text_of (Stepped answer) = step_text answer
text_of Reloaded = reloaded_text
text_of NotAccepted = line (fault_text code.ContradictoryImage detail.Alone)
text_of Dropped = dropped_text
text_of UnknownRule = line unknown_rule_text
text_of (Count n) = line (decimal n)
text_of (Body body) = string_bytes body
text_of (NoPlan fault) = line (plan_fault_text fault)
text_of Unknown = line unknown_text
text_of BadRange = line bad_range_text
text_of RunInProgress = line run_in_progress_text
text_of OutOfMemory = line memory_text
