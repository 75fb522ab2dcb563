-- The whole state of a store, and when it represents a history. (Own rules.)
use Rattle.std.specs.Prelude.{◌≡◌, ◌↔◌, ℕ, ℤ, ◌≤ℤ◌, Bool, IsTrue, List, [], ◌∷◌, ◌++◌, map, length}
use Rattle.std.specs.List.{AllByRecursion}
use Rattle.ts_core.specs.lists.Members.{Among, AllDistinct}
use Rattle.ts_core.specs.facts.Facts.{Series, Column, Fact}
use Rattle.ts_core.specs.settings.Settings.{Rule, Settings}
use Rattle.ts_core.specs.store.History.{History, settings_of, IsRunOpen, accepted, IsLawful}
use Rattle.ts_core.specs.facts.Latest.{latest_of}
use Rattle.ts_core.specs.store.Marks.{Marks, marks_of}
use Rattle.ts_core.specs.aggregates.Aggregates.{Aggregate, merged}
use Rattle.ts_core.specs.store.TwoParts.{PartsOf}
use Rattle.ts_core.specs.store.RawFacts.{kept_from, raw_of}
use Rattle.ts_core.specs.store.Cells.{Cell, cell_of, is_rolled, frozen_of, live_of}

-- a column with its points, which are times with values
pub record ColumnPoints : Type 0 where
  pub column : Column
  pub points : List (ℤ × ℤ)

-- the two parts of a cell
abbrev pub CellParts : Type 0
CellParts = PartsOf Aggregate

-- the aggregate of all facts of a cell
abbrev pub total_in : CellParts → Aggregate
total_in p = merged p.frozen p.live

-- a rule, its low index, its existing cells, and their parts
pub record RuleCells : Type 0 where
  pub rule : Rule
  pub low : ℤ
  pub cells : List Cell
  pub parts : Cell → CellParts

-- the state of a store, as its calls show it
pub record StoreState : Type 0 where
  pub settings : Settings
  pub marks : Marks
  -- true if a run is in progress; and the columns that it hasn't moved yet
  pub running : Bool
  pub waiting : List Column
  -- the registered series, and the columns with their raw points
  pub series : List Series
  pub columns : List ColumnPoints
  -- the number of accepted facts, including repeats
  pub accepted : ℕ
  pub rules : List RuleCells

abbrev pub column_of : ColumnPoints → Column
column_of c = c.column

abbrev pub rule_of : RuleCells → Rule
rule_of r = r.rule

abbrev pub lowest_of : RuleCells → ℤ
lowest_of r = r.low

-- the fact of a column's point
abbrev pub fact_at : Column → ℤ × ℤ → Fact
fact_at c p = record { column = c; time = p.0; value = p.1 }

abbrev pub facts_at : Column → List (ℤ × ℤ) → List Fact
facts_at c ps = map (fact_at c) ps

abbrev pub facts_of : List ColumnPoints → List Fact
facts_of [] = []
facts_of (c ∷ cs) = facts_at c.column c.points ++ facts_of cs

-- from its low index on, the rule has the cell of each fact, with both parts
pub record HasCells (cut : Column → ℤ) (facts : List Fact) (r : RuleCells) : Type 0 where
  pub once : AllDistinct r.cells
  pub there : (f : Fact) → Among f facts
      → IsTrue (is_rolled r.rule f) → r.low ≤ℤ (cell_of r.rule f).index → Among (cell_of r.rule f) r.cells
  pub frozen : (k : Cell) → r.low ≤ℤ k.index → (r.parts k).frozen ≡ frozen_of cut r.rule k facts
  pub live : (k : Cell) → r.low ≤ℤ k.index → (r.parts k).live ≡ live_of cut r.rule k facts

-- the state represents a history
pub record StandsFor (opening : Settings) (h : History) (s : StoreState) : Type 0 where
  pub lawful : IsLawful opening h
  pub settings : s.settings ≡ settings_of opening h
  pub marks : s.marks ≡ marks_of opening h
  pub accepted : s.accepted ≡ length (accepted h)
  pub running : IsTrue s.running ↔ IsRunOpen h
  -- only columns of the store wait, and none does unless a run is in progress
  pub waiting_once : AllDistinct s.waiting
  pub waiting_there : (c : Column) → Among c s.waiting → Among c (map column_of s.columns)
  pub idle : (IsRunOpen h → ⊥) → s.waiting ≡ []
  -- each latest fact has its column, and each column its series
  pub columns_once : AllDistinct (map column_of s.columns)
  pub columns_there : (f : Fact) → Among f (latest_of h) → Among f.column (map column_of s.columns)
  pub registered : (c : Column) → Among c (map column_of s.columns) → Among c.series s.series
  -- the columns have exactly their raw facts, each once
  pub once : AllDistinct (facts_of s.columns)
  pub raw : (f : Fact) → Among f (facts_of s.columns) ↔ Among f (raw_of opening h s.waiting f.column)
  -- the rules are those of the settings, and have their cells
  pub rules : map rule_of s.rules ≡ s.settings.rules
  pub lows : map lowest_of s.rules ≡ s.marks.lows
  pub rolled : AllByRecursion (HasCells (kept_from opening h s.waiting) (latest_of h)) s.rules
