-- A store that was saved and loaded again: the parts that stay, and those that may differ. (Own rules.)
use Rattle.std.specs.Prelude.{◌≡◌, ◌↔◌, ℤ, ◌≤ℤ◌, true, None, List, map}
use Rattle.std.specs.FinMap as finmap
use Rattle.ts_core.specs.lists.Members.{Among, AllDistinct}
use Rattle.ts_core.specs.facts.Facts.{Series, Column, Fact}
use Rattle.ts_core.specs.settings.Settings.{Rule}
use Rattle.ts_core.specs.store.Cells.{Cell, cell_of, is_rolled}
use Rattle.ts_core.specs.lists.Changes.{or_else}
use Rattle.ts_core.specs.store.StoreStates.{ColumnPoints, column_of, facts_of}
use Rattle.ts_core.specs.store.StoreData.{CellMap, RuleData, StoreData, OfEachRule, store_settings, store_marks, no_parts, AreLive, StaysFor}

-- From the low index of a rule on, the frozen parts are the same, and each raw fact has its cell. Cells below it may
-- differ, and an empty cell is as good as none.
pub record HasSameParts (r : Rule) (low : ℤ) (facts : List Fact) (m n : CellMap) : Type 0 where
  pub parts : (k : Cell)
      → low ≤ℤ k.index → (or_else no_parts (finmap.get n k)).frozen ≡ (or_else no_parts (finmap.get m k)).frozen
  pub there : (f : Fact)
      → Among f facts → is_rolled r f ≡ true → low ≤ℤ (cell_of r f).index → finmap.get n (cell_of r f) ≡ None → ⊥

-- the same for each rule
abbrev pub HaveSameParts : List Fact → List RuleData → List RuleData → Type 0
HaveSameParts facts = OfEachRule (λ r low. HasSameParts r low facts)

-- The settings, marks, count of accepted facts and open run are the same. The columns have the same points, in any
-- order of columns, and the same of them wait. Each series is still registered, and live parts are those of the raw
-- facts.
pub record IsReloaded (old new : StoreData) : Type 0 where
  pub settings : store_settings new ≡ store_settings old
  pub marks : store_marks new ≡ store_marks old
  pub running : new.running ≡ old.running
  pub accepted : new.accepted ≡ old.accepted
  pub waiting_once : AllDistinct new.waiting
  pub waiting : (c : Column) → Among c new.waiting ↔ Among c old.waiting
  pub series : (s : Series) → Among s old.series → Among s new.series
  pub columns_once : AllDistinct (map column_of new.columns)
  pub columns : (c : ColumnPoints) → Among c new.columns ↔ Among c old.columns
  pub cells : HaveSameParts (facts_of old.columns) old.rules new.rules
  pub live : AreLive new.columns new.rules

-- the new store represents each history that the old one represented
abbrev pub Reloads : Type 0
Reloads = (old new : StoreData) → IsReloaded old new → StaysFor old new
