-- /maintain: steps of a retention run, which begins if none is open. (Own rule.)
use Rattle.std.specs.Prelude.{◌≡◌, ℕ, ◌+◌, ◌<◌, ◌≤◌, nat_le, min, length, ℤ, Bool, true, false, ◌&&◌, ◌++◌, codes, if◌then◌else◌, Option, Some, None, decimal}
use Rattle.std.specs.Fmt.{signed_decimal}
use Rattle.std.specs.Str.Parse.{digits_value}
use Rattle.ts_core.specs.facts.Facts.{Text}
use Rattle.ts_core.specs.store.History.{IsRunOpen}
use Rattle.ts_store.specs.store.WholeStates.{WholeState, with_begin, left_in, StepsOnce, TakesSteps}
use Rattle.ts_store.specs.declared.retain.StepAnswer.TheVariants.{Done}
use Rattle.ts_http.specs.Parameters.{parameters, first_named}
use Rattle.ts_http.specs.Requests.{is_short_number}

-- ---- the number of steps: 1 to 5 digits, at most 10,000

abbrev pub is_step_count : Text → Bool
is_step_count value = is_short_number value && (nat_le (length value) 5 && nat_le (digits_value 10 value) 10000)

abbrev pub steps_parameter : Option Text → Option ℕ
steps_parameter None = None
steps_parameter (Some value) = if is_step_count value then Some (digits_value 10 value) else None

abbrev pub steps_of_parameter : Text → Option ℕ
steps_of_parameter query = steps_parameter (first_named (codes "steps") (parameters query))

-- ---- the run

-- an open run continues; otherwise one begins, and each column waits
pub data OpensRun (now : ℤ) (old : WholeState) : WholeState → Type 0 where
  goes_on : IsRunOpen old.store.history → OpensRun now old old
  begins : (IsRunOpen old.store.history → ⊥) → OpensRun now old (with_begin now old)

-- At most n steps of an open run: n if more are left; else as many as are left, of which the last ends the run.
pub data RunsSteps (n : ℕ) (old : WholeState) : WholeState → Type 0 where
  goes_on : (new : WholeState) → n < left_in old → TakesSteps n old new → RunsSteps n old new
  ends : (taken : ℕ) (mid new : WholeState) → left_in old ≡ taken + 1
      → left_in old ≤ n → TakesSteps taken old mid → StepsOnce mid Done new → RunsSteps n old new

-- ---- the reply: true if the run ended, the raw mark, and the number of steps taken

abbrev pub bool_text : Bool → Text
bool_text true = codes "true"
bool_text false = codes "false"

abbrev pub progress_text : Bool → ℤ → ℕ → Text
progress_text done raw taken = codes "{\"done\":" ++ (bool_text done
    ++ (codes ",\"raw\":" ++ (signed_decimal raw ++ (codes ",\"steps\":" ++ (decimal taken ++ codes "}")))))

-- that of at most n steps of a run that had this number left
abbrev pub run_text : ℕ → ℕ → ℤ → Text
run_text n left raw = progress_text (nat_le left n) raw (min n left)
