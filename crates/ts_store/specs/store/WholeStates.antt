-- A store with its inventory, as scripts and requests change it: lines are written, and runs of retention begin and
-- take steps. (Own rules.)
use Rattle.std.specs.Prelude.{◌≡◌, ℕ, ℤ, zero, suc, Bool, true, false, List, ◌∷◌, Result, Ok, Err}
use Rattle.ts_core.specs.facts.Facts.{Text}
use Rattle.ts_core.specs.settings.Settings.{Rule, is_unnamed}
use Rattle.ts_core.specs.store.History.{Begin, Step, settings_of}
use Rattle.ts_core.specs.store.Marks.{marks_of}
use Rattle.ts_core.specs.store.StoreData.{StoreData}
use Rattle.ts_core.specs.lists.Beside.{kept_beside}
use Rattle.ts_core.specs.declared.facts.time_unit.TimeUnit.{TimeUnit}
use Rattle.ts_store.specs.store.Inventories.{Inventory, inventory_of, all_waiting, facts_of_text, GrowsBy, GrowsInPart, steps_in, StepsTo}
use Rattle.ts_store.specs.write.LineTexts.{LineState, IsStateOf, parts_in, WritesText, RunsOutOfMemory}
use Rattle.ts_store.specs.read.PointsRead.{all_raw}
use Rattle.ts_store.specs.rules.RulesChanged.{GainsRule}
use Rattle.ts_store.specs.rules.RuleTexts.{low_in, with_rule_added, with_rule_dropped}
use Rattle.ts_store.specs.declared.retain.StepAnswer.{StepAnswer}
use Rattle.ts_store.specs.declared.retain.StepAnswer.TheVariants.{Moved, Done}
use Rattle.ts_store.specs.declared.write.write_text.LineOutcome.{LineOutcome}

pub record WholeState : Type 0 where
  -- the settings that the store opened with, the events since, and the registered series
  pub store : LineState
  -- the columns, the waiting ones, and the cells of each rule
  pub inventory : Inventory

-- a store is in this state
pub record IsWholeStateOf (s : WholeState) (k : StoreData) : Type 0 where
  pub store : IsStateOf s.store k
  pub inventory : inventory_of k ≡ s.inventory

-- the rules, and their low indices
abbrev pub rules_in : WholeState → List Rule
rules_in s = (settings_of s.store.opening s.store.history).rules

abbrev pub lows_in : WholeState → List ℤ
lows_in s = (marks_of s.store.opening s.store.history).lows

-- ---- texts of lines whose timestamps count units of `precision`; a text without one has the time `now`

module _ (precision : TimeUnit) (now : ℤ) where
  -- From `old`, a text may have this outcome and lead to that state.
  pub record TakesText (old : WholeState) (text : Text) (outcome : LineOutcome) (new : WholeState) : Type 0 where
    pub written : WritesText precision now old.store text outcome new.store
    pub grows : GrowsBy
        (rules_in old) (lows_in old) (facts_of_text (parts_in precision now text)) outcome old.inventory new.inventory

  -- From `old`, a text that runs out of memory may lead to that state.
  pub record StopsInText (old : WholeState) (text : Text) (new : WholeState) : Type 0 where
    pub wanted : RunsOutOfMemory precision now old.store text new.store
    pub grows : GrowsInPart
        (rules_in old) (lows_in old) (facts_of_text (parts_in precision now text)) old.inventory new.inventory

-- the effect of the text of a line on a store that was in this state
abbrev pub LineWrites : TimeUnit → ℤ → WholeState → Text → {E : Type 0} → Result LineOutcome E → StoreData → Type 0
LineWrites precision now s text (Ok outcome) new =
    (s' : WholeState) × TakesText precision now s text outcome s' × IsWholeStateOf s' new
LineWrites precision now s text (Err e) new =
    (s' : WholeState) × StopsInText precision now s text s' × IsWholeStateOf s' new

-- ---- runs of retention

-- a run begins: each column waits
abbrev pub with_begin : ℤ → WholeState → WholeState
with_begin now s =
    record { store = record s.store { history = Begin now ∷ s.store.history }; inventory = all_waiting s.inventory }

-- the number of steps that the open run still takes
abbrev pub left_in : WholeState → ℕ
left_in s = steps_in (lows_in s) s.inventory

-- true for the last step of a run
abbrev pub is_last : StepAnswer → Bool
is_last Moved = false
is_last Done = true

abbrev pub with_step : StepAnswer → Inventory → WholeState → WholeState
with_step answer inventory s =
    record { store = record s.store { history = Step (is_last answer) ∷ s.store.history }; inventory = inventory }

-- a step of the open run, with this answer
abbrev pub StepsOnce : WholeState → StepAnswer → WholeState → Type 0
StepsOnce old answer new = (inventory : Inventory)
    × StepsTo (lows_in old) old.inventory answer inventory × (new ≡ with_step answer inventory old)

-- this number of steps, one after another, none of which ends the run
abbrev pub TakesSteps : ℕ → WholeState → WholeState → Type 0
TakesSteps zero old new = new ≡ old
TakesSteps (suc n) old new = (mid : WholeState) × TakesSteps n old mid × StepsOnce mid Moved new

-- ---- rules

-- a rule is added, and has the cells of raw facts from its low index on
pub record AddsRuleTo (old : WholeState) (r : Rule) (new : WholeState) : Type 0 where
  pub store : new.store ≡ with_rule_added r old.store
  pub cells : GainsRule (all_raw old.inventory.waiting old.store.opening old.store.history) r
      (low_in old.store r) old.inventory new.inventory

-- the rule with this name is dropped with its cells, and no other cell goes
abbrev pub state_without_rule : Text → WholeState → WholeState
state_without_rule name s = record {
  store = with_rule_dropped name s.store;
  inventory = record s.inventory { cells = kept_beside (is_unnamed name) (rules_in s) s.inventory.cells };
}
