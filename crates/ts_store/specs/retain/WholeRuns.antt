-- A run of retention: it begins, moves its columns and removes its cells step by step, and the last step ends it.
-- (Own rules.)
use Rattle.std.specs.Prelude.{◌≡◌, ◌⊎◌, ◌↔◌, ◌+◌, ◌<◌, ℕ, ℤ, zero, suc, false, true, IsTrue, List, [], ◌∷◌, Result, IfOk, OnOk, OnErr, IsErr}
use Rattle.std.specs.List.{AllByRecursion}
use Rattle.ts_core.specs.lists.Members.{Among}
use Rattle.ts_core.specs.facts.Facts.{Column}
use Rattle.ts_core.specs.store.History.{History, Begin, Step}
use Rattle.ts_core.specs.moves.Runs.{steps_left}
use Rattle.ts_core.specs.store.StoreStates.{StandsFor}
use Rattle.ts_core.specs.store.StoreData.{CellMap, RuleData, StoreData, store_settings, store_marks, state_of, OfEachHistory, GoesOn}
use Rattle.ts_store.specs.declared.retain.StepAnswer.{StepAnswer}
use Rattle.ts_store.specs.declared.retain.StepAnswer.TheVariants.{Moved, Done}
use Rattle.ts_core.specs.moves.StoreMoves.{run_begun, column_moved, with_rules, run_ended}
use Rattle.ts_cells.specs.Expiry.{IsAbove, LosesBelow}
use Rattle.ts_store.specs.rollup.ChangedLists.{FirstChanges}
use Rattle.ts_store.specs.store.Inventories.{inventory_of, all_waiting, steps_in, StepsTo, LeavesRecent}

-- steps that ended no run
abbrev pub steps_taken : ℕ → History → History
steps_taken zero h = h
steps_taken (suc n) h = Step false ∷ steps_taken n h

-- a run that began at a moment and took some steps before the last one ended it
abbrev pub whole_run : ℤ → ℕ → History → History
whole_run now n h = Step true ∷ steps_taken n (Begin now ∷ h)

-- no rule has cells below its low index
abbrev pub AreAbove : List RuleData → Type 0
AreAbove = AllByRecursion (λ (r : RuleData). IsAbove r.low r.cells)

-- removes at least one cell below an index: 256, or all if there are fewer
pub record LosesCells (low : ℤ) (before after : CellMap) : Type 0 where
  pub count : ℕ
  pub some : 0 < count
  pub below : LosesBelow low count before after

-- the first rule that has cells below its low index loses some of them, and no other rule changes
abbrev pub FirstLoses : List RuleData → List RuleData → Type 0
FirstLoses old = FirstChanges (λ (a b : RuleData). IsAbove b.low b.cells)
    (λ (a b c : RuleData). LosesCells b.low b.cells c.cells × (c ≡ record b { cells = c.cells })) old old

-- moves the first of the waiting columns
pub record MovesFirst (old new : StoreData) : Type 0 where
  pub column : Column
  pub points : List (ℤ × ℤ)
  pub others : List Column
  pub waits : old.waiting ≡ column ∷ others
  pub there : Among (record { column = column; points = points }) old.columns
  pub moved : new ≡ column_moved column points others old

-- removes cells below a low index; no column waits, and nothing else changes
pub record RemovesCells (old new : StoreData) : Type 0 where
  pub waits : old.waiting ≡ []
  pub loses : FirstLoses old.rules new.rules
  pub others : new ≡ with_rules new.rules old

-- A step of the open run. It moves the first waiting column; else it removes cells below a low index; else it ends the
-- run, and nothing else changes. Each leaves one step fewer. If no run is open, nothing changes.
pub record TakesStep (old new : StoreData) (answer : StepAnswer) : Type 0 where
  pub moved : (answer ≡ Moved)
      → GoesOn old (Step false) new × (steps_left (state_of old) ≡ steps_left (state_of new) + 1)
  pub moves : (answer ≡ Moved) → MovesFirst old new ⊎ RemovesCells old new
  pub done : (answer ≡ Done) → GoesOn old (Step true) new × (new.running ≡ false)
  pub running : (answer ≡ Moved) → new.running ≡ true
  pub last : (answer ≡ Done) → (old.running ≡ true) → steps_left (state_of old) ≡ 1
  pub ends : (answer ≡ Done) → (old.running ≡ true) → new ≡ run_ended old
  pub inventory : (old.running ≡ true) → StepsTo (store_marks old).lows (inventory_of old) answer (inventory_of new)
  pub idle : (old.running ≡ false) → (answer ≡ Done) × (new ≡ old)
  pub above : (answer ≡ Done) → (old.running ≡ true) → AreAbove new.rules
  pub marks : store_marks new ≡ store_marks old
  pub series : new.series ≡ old.series

-- A whole run: after it the store stands for each history that it stood for, with the run. Columns keep their order.
-- The cells of each rule from its low index on stay, and no others.
pub record Retains (now : ℤ) (old new : StoreData) : Type 0 where
  pub steps : ℕ
  -- with the last step, as many as were left after the begin
  pub count : steps + 1 ≡ steps_left (state_of (run_begun now old))
  pub inventory_steps : steps + 1 ≡ steps_in (store_marks new).lows (all_waiting (inventory_of old))
  pub history : OfEachHistory old (λ opening h. StandsFor opening (whole_run now steps h) (state_of new))
  pub marks : store_marks new ≡ store_marks (run_begun now old)
  pub idle : new.running ≡ false
  pub series : new.series ≡ old.series
  pub settings : store_settings new ≡ store_settings old
  pub accepted : new.accepted ≡ old.accepted
  pub inventory : LeavesRecent (store_settings old).rules (store_marks new).lows (inventory_of old) (inventory_of new)

-- A call that begins a run. If none is open, it is done and returns the raw mark; else it is refused, and nothing
-- changes.
pub record RunsWhereIdle {E : Type 0} (done : Type 0) (old new : StoreData) (result : Result ℤ E) : Type 0 where
  pub ok : OnOk result done
  pub raw : IfOk result (λ raw. raw ≡ new.raw_mark)
  pub refused : OnErr result (new ≡ old)
  pub running : IsErr result ↔ IsTrue old.running
