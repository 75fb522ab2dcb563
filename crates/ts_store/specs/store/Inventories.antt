-- The inventory of a store: its columns and cells, and the columns that the open run hasn't moved yet. Writes add to
-- it, and it determines the steps of a run. (Own rules.)
use Rattle.std.specs.Prelude.{◌≡◌, ◌⊎◌, ◌↔◌, ◌+◌, ◌-◌, ◌<◌, ℕ, ℤ, int_lt, ◌≤ℤ◌, List, [], ◌∷◌, ◌++◌, map, filter, length, Result, Ok, Err, Option, Some, None}
use Rattle.std.specs.FinMap as finmap
use Rattle.std.specs.List.{sum_by, zip}
use Rattle.ts_core.specs.lists.Members.{Among, AllDistinct}
use Rattle.ts_core.specs.lists.Numbered.{IsAt}
use Rattle.ts_core.specs.facts.Facts.{Column, Fact}
use Rattle.ts_core.specs.settings.Settings.{Rule, Settings}
use Rattle.ts_core.specs.store.Cells.{Cell}
use Rattle.ts_core.specs.moves.Runs.{batches_of}
use Rattle.ts_core.specs.store.StoreStates.{column_of}
use Rattle.ts_core.specs.store.StoreData.{RuleData, StoreData}
use Rattle.ts_line.specs.Parts.{Parts, line_facts}
use Rattle.ts_line.specs.declared.fault.LineFault.{LineFault}
use Rattle.ts_store.specs.rollup.ChangedLists.{FirstChanges}
use Rattle.ts_store.specs.write.LinesPut.{IsOfFacts}
use Rattle.ts_store.specs.write.Registered.{new_columns}
use Rattle.ts_store.specs.declared.retain.StepAnswer.{StepAnswer}
use Rattle.ts_store.specs.declared.retain.StepAnswer.TheVariants.{Moved, Done}
use Rattle.ts_store.specs.declared.write.write_text.LineOutcome.{LineOutcome}
use Rattle.ts_store.specs.declared.write.write_text.LineOutcome.TheVariants.{Accepted, NoLine, Refused}

pub record Inventory : Type 0 where
  -- the columns, in creation order
  pub columns : List Column
  -- those that the open run hasn't moved yet
  pub waiting : List Column
  -- the cells of each rule
  pub cells : List (List Cell)

abbrev pub inventory_of : StoreData → Inventory
inventory_of k = record {
  columns = map column_of k.columns;
  waiting = k.waiting;
  cells = map (λ (r : RuleData). finmap.keys r.cells) k.rules;
}

-- that of a new store
abbrev pub new_inventory : Settings → Inventory
new_inventory settings = record { columns = []; waiting = []; cells = map (λ (r : Rule). []) settings.rules }

-- the relation holds of each rule, its low index, and its cells before and after; the number of lists of cells stays
abbrev pub OfRules : (Rule → ℤ → List Cell → List Cell → Type 0)
    → List Rule → List ℤ → List (List Cell) → List (List Cell) → Type 0
OfRules P rules lows before after =
    (length after ≡ length before) × ((i : ℕ) (r : Rule) (low : ℤ) (old new : List Cell)
    → IsAt rules i r → IsAt lows i low → IsAt before i old → IsAt after i new → P r low old new)

-- ---- writes, under these rules and low indices

-- creates the missing cells of facts, but none below the low index, and no others
pub record AddsAll (facts : List Fact) (r : Rule) (low : ℤ) (old new : List Cell) : Type 0 where
  pub there : (k : Cell) → Among k new ↔ (Among k old ⊎ ((low ≤ℤ k.index) × IsOfFacts facts r k))
  pub once : AllDistinct new

-- creates some of these
pub record AddsSome (facts : List Fact) (r : Rule) (low : ℤ) (old new : List Cell) : Type 0 where
  pub stays : (k : Cell) → Among k old → Among k new
  pub created : (k : Cell) → Among k new → Among k old ⊎ ((low ≤ℤ k.index) × IsOfFacts facts r k)
  pub once : AllDistinct new

-- Facts were accepted: their missing columns are appended, in the order of the facts, and their missing cells are
-- created. No new column waits.
pub record InventoryGrows (rules : List Rule) (lows : List ℤ) (facts : List Fact) (old new : Inventory) : Type 0 where
  pub columns : new.columns ≡ old.columns ++ new_columns old.columns facts
  pub waiting : new.waiting ≡ old.waiting
  pub cells : OfRules (AddsAll facts) rules lows old.cells new.cells

-- Out of memory: the first of these columns and some of these cells may be created.
pub record GrowsInPart (rules : List Rule) (lows : List ℤ) (facts : List Fact) (old new : Inventory) : Type 0 where
  pub made : List Column
  pub others : List Column
  pub order : made ++ others ≡ new_columns old.columns facts
  pub columns : new.columns ≡ old.columns ++ made
  pub waiting : new.waiting ≡ old.waiting
  pub cells : OfRules (AddsSome facts) rules lows old.cells new.cells

-- the facts of a text, by the result of parsing it
abbrev pub facts_of_text : Result (Option Parts) LineFault → List Fact
facts_of_text (Ok (Some parts)) = line_facts parts
facts_of_text (Ok None) = []
facts_of_text (Err fault) = []

-- a text with these facts had this outcome: if it isn't accepted, nothing is created
abbrev pub GrowsBy : List Rule → List ℤ → List Fact → LineOutcome → Inventory → Inventory → Type 0
GrowsBy rules lows facts Accepted old new = InventoryGrows rules lows facts old new
GrowsBy rules lows facts NoLine old new = new ≡ old
GrowsBy rules lows facts (Refused refusal) old new = new ≡ old

-- the same of a call that may run out of memory
abbrev pub GrowsAfter : List Rule → List ℤ → List Fact
    → {E : Type 0} → Result LineOutcome E → Inventory → Inventory → Type 0
GrowsAfter rules lows facts (Ok outcome) old new = GrowsBy rules lows facts outcome old new
GrowsAfter rules lows facts (Err e) old new = GrowsInPart rules lows facts old new

-- ---- the cells of a rule

-- exactly the cells of facts, from the low index on
pub record AreFilled (facts : List Fact) (r : Rule) (low : ℤ) (cells : List Cell) : Type 0 where
  pub there : (k : Cell) → Among k cells ↔ ((low ≤ℤ k.index) × IsOfFacts facts r k)
  pub once : AllDistinct cells

-- ---- runs of retention, under these low indices

-- each column waits
abbrev pub all_waiting : Inventory → Inventory
all_waiting s = record s { waiting = s.columns }

-- the number of cells below a low index
abbrev pub expired_in : ℤ → List Cell → ℕ
expired_in low cells = length (filter (λ (k : Cell). int_lt k.index low) cells)

-- removes 256 cells below the low index, or all if there are fewer
pub record Expires (low : ℤ) (old new : List Cell) : Type 0 where
  pub some : 0 < expired_in low old
  pub fewer : expired_in low new ≡ expired_in low old - 256
  pub only : (k : Cell) → Among k new → Among k old
  pub stays : (k : Cell) → low ≤ℤ k.index → Among k old → Among k new
  pub once : AllDistinct new

-- the first rule that has cells below its low index loses some of them, and no other rule loses any
abbrev pub FirstExpires : List ℤ → List (List Cell) → List (List Cell) → Type 0
FirstExpires = FirstChanges (λ (low : ℤ) (cells : List Cell). expired_in low cells ≡ 0) Expires

-- the number of steps that remove all cells below the low indices
abbrev pub batches_in : List ℤ → List (List Cell) → ℕ
batches_in lows cells = sum_by (λ (p : ℤ × List Cell). batches_of (expired_in p.0 p.1)) (zip lows cells)

-- the number of steps that an open run still takes: each waiting column takes one, and so does the end
abbrev pub steps_in : List ℤ → Inventory → ℕ
steps_in lows s = length s.waiting + batches_in lows s.cells + 1

-- From `old`, a step of an open run may have this answer and lead to that inventory.
pub data StepsTo (lows : List ℤ) (old : Inventory) : StepAnswer → Inventory → Type 0 where
  -- the first waiting column is moved
  moves : (column : Column) (others : List Column)
      → old.waiting ≡ column ∷ others → StepsTo lows old Moved (record old { waiting = others })
  removes : (cells : List (List Cell))
      → old.waiting ≡ [] → FirstExpires lows old.cells cells → StepsTo lows old Moved (record old { cells = cells })
  -- nothing is left
  ends : old.waiting ≡ [] → batches_in lows old.cells ≡ 0 → StepsTo lows old Done old

-- the cells from the low index on stay, and no others
pub record LeavesFrom (low : ℤ) (old new : List Cell) : Type 0 where
  pub there : (k : Cell) → Among k new ↔ (Among k old × (low ≤ℤ k.index))
  pub once : AllDistinct new

-- A whole run leaves the columns, and of each rule the cells from its low index on. No column waits.
pub record LeavesRecent (rules : List Rule) (lows : List ℤ) (old new : Inventory) : Type 0 where
  pub columns : new.columns ≡ old.columns
  pub waiting : new.waiting ≡ []
  pub cells : OfRules (λ r. LeavesFrom) rules lows old.cells new.cells
