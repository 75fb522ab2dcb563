-- Views of a store, and the histories that a view shows. It has the raw facts at or above the raw mark, and cells whose
-- two parts together are the totals. (Own rules.)
use Rattle.std.specs.Prelude.{◌≡◌, ◌↔◌, ◌≤ℤ◌, IsTrue, List, map}
use Rattle.std.specs.List.{AllByRecursion}
use Rattle.ts_core.specs.lists.Members.{Among, AllDistinct}
use Rattle.ts_core.specs.facts.Facts.{Fact}
use Rattle.ts_core.specs.settings.Settings.{Settings}
use Rattle.ts_core.specs.store.History.{History, settings_of, IsLawful}
use Rattle.ts_core.specs.facts.Latest.{latest_of}
use Rattle.ts_core.specs.store.Marks.{Marks, marks_of}
use Rattle.ts_core.specs.aggregates.Aggregates.{Aggregate}
use Rattle.ts_core.specs.store.Cells.{Cell, cell_of, is_rolled, total_of}
use Rattle.ts_core.specs.store.StoreStates.{ColumnPoints, column_of, facts_of, RuleCells, total_in, rule_of, lowest_of, StoreState}

pub record ViewState : Type 0 where
  pub settings : Settings
  pub marks : Marks
  pub columns : List ColumnPoints
  pub rules : List RuleCells

-- the aggregate of all facts of a cell, as the view shows it
abbrev pub shown_total : RuleCells → Cell → Aggregate
shown_total r k = total_in (r.parts k)

-- from its low index on, the rule shows the cell of each fact, with the total of its facts
pub record HasTotals (facts : List Fact) (r : RuleCells) : Type 0 where
  pub once : AllDistinct r.cells
  pub there : (f : Fact) → Among f facts
      → IsTrue (is_rolled r.rule f) → r.low ≤ℤ (cell_of r.rule f).index → Among (cell_of r.rule f) r.cells
  pub totals : (k : Cell) → r.low ≤ℤ k.index → shown_total r k ≡ total_of r.rule k facts

-- the view shows a history
pub record Shows (opening : Settings) (h : History) (seen : ViewState) : Type 0 where
  pub lawful : IsLawful opening h
  pub settings : seen.settings ≡ settings_of opening h
  pub marks : seen.marks ≡ marks_of opening h
  -- each latest fact has its column
  pub columns_once : AllDistinct (map column_of seen.columns)
  pub columns_there : (f : Fact) → Among f (latest_of h) → Among f.column (map column_of seen.columns)
  -- from the raw mark on, the columns have exactly the latest facts, each once
  pub once : AllDistinct (facts_of seen.columns)
  pub raw : (f : Fact) → seen.marks.raw ≤ℤ f.time → Among f (facts_of seen.columns) ↔ Among f (latest_of h)
  -- the rules are those of the settings, and show their cells
  pub rules : map rule_of seen.rules ≡ seen.settings.rules
  pub lows : map lowest_of seen.rules ≡ seen.marks.lows
  pub rolled : AllByRecursion (HasTotals (latest_of h)) seen.rules

-- ---- the view of a store

abbrev pub view_state_of : StoreState → ViewState
view_state_of s = record { settings = s.settings; marks = s.marks; columns = s.columns; rules = s.rules }
