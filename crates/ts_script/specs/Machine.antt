-- The state machine of a script: the output of each line, and the new state. (Own rule.)
use Rattle.std.specs.Prelude.{◌≡◌, ℕ, ℤ, pos, ◌≤ℤ◌, ◌<ℤ◌, ◌+◌, ◌<◌, ◌≤◌, Bool, true, false, List, [], ◌∷◌, length, codes, Option, Some, None, Result, Ok, Err}
use Rattle.std.specs.Fmt.{decimal}
use Rattle.std.specs.Str.{IsUtf8}
use Rattle.ts_core.specs.facts.Facts.{Text, Series}
use Rattle.ts_core.specs.settings.Settings.{Rule, Settings, open_settings}
use Rattle.ts_core.specs.settings.SettingsFaults.{is_named, settings_fault_text, unknown_rule_text}
use Rattle.ts_core.specs.settings.SettingsTexts.{settings_read}
use Rattle.ts_core.specs.declared.settings.settings_fault.SettingsFault.{SettingsFault}
use Rattle.ts_core.specs.store.History.{History, settings_of, IsRunOpen}
use Rattle.ts_core.specs.store.Marks.{marks_of}
use Rattle.ts_core.specs.declared.facts.time_unit.TimeUnit.{TimeUnit}
use Rattle.ts_core.specs.declared.facts.time_unit.TimeUnit.TheVariants.{Nanoseconds}
use Rattle.ts_core.specs.text.FaultTexts.{memory_text}
use Rattle.ts_reply.specs.Answering.{IsReply}
use Rattle.ts_reply.specs.Counts.{IsCount}
use Rattle.ts_reply.specs.Explaining.{IsExplanation}
use Rattle.ts_reply.specs.declared.counting.CountError.{CountError}
use Rattle.ts_reply.specs.declared.epoch.Epoch.{Epoch}
use Rattle.ts_reply.specs.declared.epoch.Epoch.TheVariants as epochs
use Rattle.ts_store.specs.write.LineTexts.{LineState as StoreState, opened as opened_store, with_series}
use Rattle.ts_store.specs.store.Inventories.{Inventory, new_inventory, LeavesRecent}
use Rattle.ts_store.specs.store.WholeStates.{WholeState, rules_in, lows_in, left_in, TakesText, StopsInText, with_begin, StepsOnce, AddsRuleTo, state_without_rule}
use Rattle.ts_store.specs.read.PointsRead.{all_raw}
use Rattle.ts_store.specs.rules.RuleTexts.{rule_for, settings_in, low_in}
use Rattle.ts_store.specs.write.StoreFaultTexts.{run_in_progress_text}
use Rattle.ts_store.specs.retain.WholeRuns.{whole_run}
use Rattle.ts_store.specs.declared.retain.StepAnswer.{StepAnswer}
use Rattle.ts_store.specs.declared.retain.StepAnswer.TheVariants.{Done}
use Rattle.ts_store.specs.declared.write.write_text.LineOutcome.{LineOutcome}
use Rattle.ts_script.specs.Reloads.{Reloaded}
use Rattle.ts_script.specs.ScriptLines.{script_line_limit}
use Rattle.ts_script.specs.ScriptCertificates.{with_line_feeds}
use Rattle.ts_script.specs.Commands.{Command, SetSettings, At, SetPrecision, SetEpoch, Write, Live, Retain, BeginRun, StepRun, Reload, AddRule, DropRule, SetCertificate, Query, Explain, Count, CountFault, Unknown, is_skipped, command_of}
use Rattle.ts_script.specs.MarksTexts.{rule_text, marks_text}
use Rattle.ts_script.specs.ScriptReplies.{line, outcome_text, step_text, reloaded_text, dropped_text, unknown_text, bad_range_text, count_text}

pub record State : Type 0 where
  -- the script's time, in nanoseconds, the precision of its timestamps, and the format of times in replies
  pub moment : ℤ
  pub precision : TimeUnit
  pub epoch : Epoch
  -- only skipped lines have come, so settings may follow
  pub fresh : Bool
  -- the certificate of the next query
  pub certificate : Option Text
  -- the settings that the script opened with, the events since, and the registered series
  pub store : StoreState
  -- the columns, the waiting ones, and the cells of each rule
  pub inventory : Inventory

abbrev pub start : State
start = record {
  moment = pos 0;
  precision = Nanoseconds;
  epoch = epochs.Text;
  fresh = true;
  certificate = None;
  store = opened_store open_settings;
  inventory = new_inventory open_settings;
}

abbrev pub at_moment : ℤ → State → State
at_moment t s = record s { moment = t }

abbrev pub in_precision : TimeUnit → State → State
in_precision p s = record s { precision = p }

abbrev pub in_epoch : Epoch → State → State
in_epoch e s = record s { epoch = e }

-- a line that isn't skipped has come
abbrev pub no_longer_fresh : State → State
no_longer_fresh s = record s { fresh = false }

abbrev pub with_certificate : Option Text → State → State
with_certificate certificate s = record s { certificate = certificate }

-- a store in this state, with this inventory, instead of the script's own
abbrev pub with_store : StoreState → Inventory → State → State
with_store k inventory s = record s { store = k; inventory = inventory }

-- an empty store with these settings
abbrev pub opened_with : Settings → State → State
opened_with settings = with_store (opened_store settings) (new_inventory settings)

-- the store of the state with its inventory, and the state with another such store
abbrev pub whole_state : State → WholeState
whole_state s = record { store = s.store; inventory = s.inventory }

abbrev pub with_whole : WholeState → State → State
with_whole w s = with_store w.store w.inventory s

-- a run of retention begins at the script's time
abbrev pub with_open_run : State → State
with_open_run s = with_whole (with_begin s.moment (whole_state s)) s

-- a whole retention run, of `steps` steps and a last one
abbrev pub with_run : ℕ → Inventory → State → State
with_run steps inventory s =
    with_store (record s.store { history = whole_run s.moment steps s.store.history }) inventory s

-- A whole run takes this number of steps before the last one, and leaves this inventory. Of each rule it has the cells
-- from its new low index on.
pub record RunsWhole (old : State) (steps : ℕ) (new : Inventory) : Type 0 where
  pub count : steps + 1 ≡ left_in (with_begin old.moment (whole_state old))
  pub left : LeavesRecent
      (rules_in (whole_state old)) (lows_in (with_begin old.moment (whole_state old))) old.inventory new

-- the store of the state was saved and loaded back
abbrev pub IsReload : State → List Series → Inventory → Type 0
IsReload old series new = Reloaded old.store.history
    (rules_in (whole_state old)) (lows_in (whole_state old)) old.store.series old.inventory series new

-- the marks of the state, as text
abbrev pub current_marks_text : State → Text
current_marks_text s =
    marks_text (settings_of s.store.opening s.store.history) (marks_of s.store.opening s.store.history)

-- After a history, a count over a non-empty range may print this text.
abbrev pub Counts : Settings → History → Text → Text → ℤ → ℤ → Text → Type 0
Counts opening h measurement field a b text =
    (result : Result ℕ CountError) × IsCount opening h measurement field a b result × (text ≡ count_text result)

-- From `old`, a command may print this text and lead to that state.
pub data Transition (old : State) : Command → Text → State → Type 0 where
  -- settings come before everything else; with an error, the opening ones stay
  opens : (text : Text) (settings : Settings) → old.fresh ≡ true
      → settings_read text ≡ Ok settings → Transition old (SetSettings text) [] (opened_with settings old)
  refuses_settings : (text : Text) (fault : SettingsFault) → old.fresh ≡ true
      → settings_read text ≡ Err fault → Transition old (SetSettings text) (line (settings_fault_text fault)) old
  opens_no_memory : (text : Text) → old.fresh ≡ true → Transition old (SetSettings text) (line memory_text) old
  opens_late : (text : Text) → old.fresh ≡ false → Transition old (SetSettings text) (line unknown_text) old
  moves : (t : ℤ) → Transition old (At t) [] (at_moment t old)
  sets : (p : TimeUnit) → Transition old (SetPrecision p) [] (in_precision p old)
  -- a line is written with the script's precision; without a timestamp, it has the script's time
  writes : (text : Text) (outcome : LineOutcome) (new : WholeState)
      → TakesText old.precision old.moment (whole_state old) text outcome new
      → Transition old (Write text) (outcome_text outcome) (with_whole new old)
  writes_no_memory : (text : Text) (new : WholeState) → StopsInText old.precision old.moment (whole_state old) text new
      → Transition old (Write text) (line memory_text) (with_whole new old)
  shows : (e : Epoch) → Transition old (SetEpoch e) [] (in_epoch e old)
  -- unless a run is open, retention runs at the script's time, and the new marks are printed
  retains : (steps : ℕ) (inventory : Inventory) → (IsRunOpen old.store.history → ⊥) → RunsWhole old steps inventory
      → Transition old Retain (line (current_marks_text (with_run steps inventory old))) (with_run steps inventory old)
  refuses_retain : IsRunOpen old.store.history → Transition old Retain (line run_in_progress_text) old
  retains_no_memory : Transition old Retain (line memory_text) old
  -- unless a run is open, one begins at the script's time, and the new marks are printed
  begins : (IsRunOpen old.store.history → ⊥)
      → Transition old BeginRun (line (current_marks_text (with_open_run old))) (with_open_run old)
  refuses_begin : IsRunOpen old.store.history → Transition old BeginRun (line run_in_progress_text) old
  begins_no_memory : Transition old BeginRun (line memory_text) old
  -- a step of the open run; without one, nothing changes
  steps : (answer : StepAnswer) (new : WholeState) → IsRunOpen old.store.history
      → StepsOnce (whole_state old) answer new → Transition old StepRun (step_text answer) (with_whole new old)
  steps_idle : (IsRunOpen old.store.history → ⊥) → Transition old StepRun (step_text Done) old
  -- the store is saved to memory and loaded back: its history stays, and so does an open run
  reloads : (series : List Series) (inventory : Inventory) → IsReload old series inventory
      → Transition old Reload reloaded_text (with_store (with_series series old.store) inventory old)
  reloads_no_memory : Transition old Reload (line memory_text) old
  -- a rule is added, and its name and low index are printed; with a fault, or out of memory, nothing changes
  adds : (text : Text) (r : Rule) (new : WholeState)
      → rule_for (settings_in old.store) text ≡ Ok r → AddsRuleTo (whole_state old) r new
      → Transition old (AddRule text) (line (rule_text r.name (low_in old.store r))) (with_whole new old)
  refuses_rule : (text : Text) (fault : SettingsFault) → rule_for (settings_in old.store) text ≡ Err fault
      → Transition old (AddRule text) (line (settings_fault_text fault)) old
  adds_no_memory : (text : Text) → Transition old (AddRule text) (line memory_text) old
  -- the rule with the name is dropped, if there is one
  drops : (name : Text) → is_named (rules_in (whole_state old)) name ≡ true
      → Transition old (DropRule name) dropped_text (with_whole (state_without_rule name (whole_state old)) old)
  refuses_drop : (name : Text)
      → is_named (rules_in (whole_state old)) name ≡ false → Transition old (DropRule name) (line unknown_rule_text) old
  -- the certificate is set for the next query, replacing an earlier one
  sets_certificate : (text : Text)
      → Transition old (SetCertificate text) [] (with_certificate (Some (with_line_feeds text)) old)
  sets_certificate_no_memory : (text : Text) → Transition old (SetCertificate text) (line memory_text) old
  -- the body of the reply, good or not; the certificate is consumed
  replies : (text body : Text) (good : Bool)
      → IsReply old.store.opening old.store.history old.moment text old.certificate old.epoch good body
      → Transition old (Query text) (line body) (with_certificate None old)
  replies_no_memory : (text : Text) → Transition old (Query text) (line memory_text) (with_certificate None old)
  explains : (text body : Text) (good : Bool)
      → IsExplanation old.store.opening old.store.history old.moment text good body
      → Transition old (Explain text) (line body) old
  explains_no_memory : (text : Text) → Transition old (Explain text) (line memory_text) old
  -- the number of raw facts: the latest of each id from the raw mark on, and of a waiting column from the mark before
  tells_live : Transition old Live
      (line (decimal (length (all_raw old.inventory.waiting old.store.opening old.store.history)))) old
  counts : (measurement field answer : Text) (a b : ℤ)
      → a <ℤ b → Counts old.store.opening old.store.history measurement field a b answer
      → Transition old (Count measurement field a b) answer old
  counts_nothing : (measurement field : Text) (a b : ℤ)
      → b ≤ℤ a → Transition old (Count measurement field a b) (line (codes "0")) old
  refuses_count : Transition old CountFault (line bad_range_text) old
  refuses_unknown : Transition old Unknown (line unknown_text) old

-- From `old`, a line of a script may print this text and lead to that state.
pub data Step (old : State) : Text → Text → State → Type 0 where
  too_long : (bytes : Text)
      → script_line_limit < length bytes → Step old bytes (line unknown_text) (no_longer_fresh old)
  no_text : (bytes : Text) → (IsUtf8 bytes → ⊥) → Step old bytes (line unknown_text) (no_longer_fresh old)
  -- a blank line or a comment
  skips : (bytes : Text)
      → length bytes ≤ script_line_limit → IsUtf8 bytes → is_skipped bytes ≡ true → Step old bytes [] old
  does : (bytes answer : Text) (new : State) → length bytes ≤ script_line_limit → IsUtf8 bytes
      → is_skipped bytes ≡ false → Transition old (command_of bytes) answer new
      → Step old bytes answer (no_longer_fresh new)

-- Lines may print these answers, one after another.
abbrev pub Prints : State → List Text → List Text → State → Type 0
Prints old [] [] new = new ≡ old
Prints old (text ∷ texts) (answer ∷ answers) new =
    (mid : State) × Step old text answer mid × Prints mid texts answers new
Prints old [] (answer ∷ answers) new = ⊥
Prints old (text ∷ texts) [] new = ⊥
