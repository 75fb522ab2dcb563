-- The code's record of a batch. (Own rules.)
use Rattle.std.specs.Prelude.{◌≡◌, ℕ, ℤ, List, [], ◌∷◌, length, map, Option, Some, None, option_map, Result, Ok, Err}
use Rattle.ts_core.specs.facts.Facts.{Text}
use Rattle.ts_core.specs.store.StoreData.{StoreData}
use Rattle.ts_core.specs.declared.facts.time_unit.TimeUnit.{TimeUnit}
use Rattle.ts_store.specs.write.LineTexts.{line_refusal_text, refusal_text}
use Rattle.ts_store.specs.store.WholeStates.{WholeState, IsWholeStateOf}
use Rattle.ts_store.specs.declared.write.write_text.LineOutcome.{LineOutcome}
use Rattle.ts_store.specs.declared.write.write_text.LineRefusal.{LineRefusal}
use Rattle.ts_http.specs.Batches.{TakesLines, StopsAtLine, body_lines, refusals_from}
use Rattle.ts_http.specs.declared.batch.BatchTally.{BatchTally}

abbrev pub first_of : List (ℕ × Text) → Option (ℕ × Text)
first_of [] = None
first_of (x ∷ xs) = Some x

abbrev pub numbered_refusal : ℕ × LineRefusal → ℕ × Text
numbered_refusal x = (x.0, line_refusal_text x.1)

-- the number of lines so far, the number refused, and the first refused one
pub record TallyIs (outcomes : List (Option Text)) (t : BatchTally) : Type 0 where
  pub lines : t.lines ≡ length outcomes
  pub dropped : t.dropped ≡ length (refusals_from 1 outcomes)
  pub first : option_map numbered_refusal t.first ≡ first_of (refusals_from 1 outcomes)

-- the effect of the lines of a body on a store that was in this state
abbrev pub WritesLines : TimeUnit → ℤ → WholeState → Text → {E : Type 0} → Result BatchTally E → StoreData → Type 0
WritesLines precision now s body (Ok tally) new =
    (outcomes : List LineOutcome) × (s' : WholeState) × TakesLines precision now s (body_lines body) outcomes s'
    × TallyIs (map refusal_text outcomes) tally × IsWholeStateOf s' new
WritesLines precision now s body (Err e) new =
    (s' : WholeState) × StopsAtLine precision now s (body_lines body) s' × IsWholeStateOf s' new
