-- The parts of a store under construction in memory. (Own rules.)
use Rattle.std.specs.Prelude.{◌≡◌, ◌≤◌, ℕ, ℤ, Bool, not, List, length, map, Some, option_map}
use Rattle.std.specs.FinMap as finmap
use Rattle.std.specs.List.{AllByRecursion, AllZip}
use Rattle.ts_core.specs.lists.Members.{Among, AllDistinct}
use Rattle.ts_core.specs.lists.Beside.{OfEach}
use Rattle.ts_core.specs.facts.Facts.{Series, Column, Fact}
use Rattle.ts_core.specs.settings.Settings.{Rule, Settings}
use Rattle.ts_core.specs.store.Marks.{Marks}
use Rattle.ts_core.specs.aggregates.Aggregates.{empty_aggregate, merged}
use Rattle.ts_core.specs.store.Cells.{Cell, total_of}
use Rattle.ts_core.specs.store.StoreStates.{CellParts, column_of, facts_of}
use Rattle.ts_core.specs.store.StoreData.{CellMap, OfEachRule, AreLive}
use Rattle.ts_line.specs.Names.{IsKey, IsStatable}
use Rattle.ts_store.specs.image.Building.{Built, HasCellsOf, HaveCells}
use Rattle.ts_store.specs.store.PossibleCells.{HasPossibleCells, HavePossibleCells}
use Rattle.ts_store.specs.store.ColumnStates.{StoreContent, AreKnown}
use Rattle.ts_store.specs.write.LinesPut.{PutsCells, GainsCells}
use Rattle.ts_store.specs.store.RuleLists.{rules_with}
use Rattle.ts_store.specs.rollup.Rollups.{AreRollups, cells_of}
use Rattle.ts_store.specs.retain.RollupSteps.{content_with_cells}

-- a column that isn't passed waits
abbrev pub built_of : Settings → Marks → Bool → ℕ → StoreContent → List Bool → Built
built_of settings marks running accepted held passed = record {
  settings = settings;
  marks = marks;
  running = running;
  accepted = accepted;
  series = held.series;
  columns = held.columns;
  waits = map not passed;
  cells = cells_of held.rollups;
}

-- no live part has a fact yet
abbrev pub IsIdle : CellMap → Type 0
IsIdle m = (k : Cell) (p : CellParts) → finmap.get m k ≡ Some p → p.live ≡ empty_aggregate

abbrev pub AreIdle : List CellMap → Type 0
AreIdle ms = AllByRecursion IsIdle ms

-- the invariant of a store under construction
pub record IsInOrder (settings : Settings) (held : StoreContent) (passed : List Bool) : Type 0 where
  pub rollups : AreRollups settings.rules (map column_of held.columns) held.rollups
  pub each : length passed ≡ length held.columns
  pub idle : AreIdle (cells_of held.rollups)
  pub few : length held.series ≤ 1000000
  pub named : (s : Series) → Among s held.series → IsStatable s
  pub keys : (c : Column) → Among c (map column_of held.columns) → IsKey c.field

-- ---- cells of raw facts

-- the missing cells of these facts are created, without content, but none below the low index, and none that the rule
-- can't have
pub record MakesCells (facts : List Fact) (r : Rule) (low : ℤ) (m n : CellMap) : Type 0 where
  pub gains : GainsCells facts r low m n
  pub there : HasCellsOf facts r low n
  pub possible : HasPossibleCells r m → HasPossibleCells r n

-- no cell is created or removed, and each frozen part stays
abbrev pub KeepsFrozen : CellMap → CellMap → Type 0
KeepsFrozen m n = (k : Cell) → option_map (λ (p : CellParts). p.frozen) (finmap.get n k)
    ≡ option_map (λ (p : CellParts). p.frozen) (finmap.get m k)

-- the same for each rule
abbrev pub KeepFrozen : List CellMap → List CellMap → Type 0
KeepFrozen = AllZip KeepsFrozen

-- merged with the facts that are still to be added, each live part is the aggregate of all facts
abbrev pub IsFilledBut : List Fact → List Fact → Rule → CellMap → Type 0
IsFilledBut left all r m = (k : Cell) (p : CellParts)
    → finmap.get m k ≡ Some p → merged p.live (total_of r k left) ≡ total_of r k all

-- the same for each rule
abbrev pub AreFilledBut : List Fact → List Fact → List Rule → List CellMap → Type 0
AreFilledBut left all = OfEach (IsFilledBut left all)

-- the missing cells of raw facts are created, and the facts are added to empty live parts; series, columns and rollup
-- series stay
pub record FillsCells (rules : List Rule) (lows : List ℤ) (old new : StoreContent) : Type 0 where
  pub others : new ≡ content_with_cells (cells_of new.rollups) old
  pub cells : OfEachRule (PutsCells (facts_of old.columns))
      (rules_with rules lows (cells_of old.rollups)) (rules_with rules lows (cells_of new.rollups))
  pub has_cells : HaveCells (facts_of old.columns) (rules_with rules lows (cells_of new.rollups))
  pub live : AreLive old.columns (rules_with rules lows (cells_of new.rollups))
  pub possible : HavePossibleCells (rules_with rules lows (cells_of old.rollups))
      → HavePossibleCells (rules_with rules lows (cells_of new.rollups))
  pub known : AreKnown new
  pub once : AllDistinct (facts_of new.columns)
