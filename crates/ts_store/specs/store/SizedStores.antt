-- Plain facts about the data of a store, which its calls rely on and keep, and which a loader can check. They also hold
-- of a store that was loaded from an image that no store wrote, and that stands for no history. (Own rules.)
use Rattle.std.specs.Prelude.{◌≡◌, ℕ, ℤ, pos, ◌+ℤ◌, ◌≤◌, ◌≤ℤ◌, ◌^◌, IsTrue, List, length, map, None}
use Rattle.std.specs.List.{AllByRecursion}
use Rattle.std.specs.FinMap as finmap
use Rattle.ts_core.specs.lists.Members.{Among, AllDistinct}
use Rattle.ts_core.specs.facts.Facts.{Series, Column, Fact}
use Rattle.ts_core.specs.settings.SettingsFaults.{settings_fault}
use Rattle.ts_core.specs.facts.Times.{least_time}
use Rattle.ts_core.specs.store.Marks.{index_of}
use Rattle.ts_core.specs.store.Cells.{cell_of, is_rolled}
use Rattle.ts_core.specs.store.StoreStates.{ColumnPoints, column_of, facts_of}
use Rattle.ts_core.specs.store.StoreData.{RuleData, StoreData, store_settings}
use Rattle.ts_line.specs.Names.{IsKey, IsStatable}

-- The low index of a rule is at least that of the least time, and at most one more than that of the raw mark. From its
-- low index on, the rule has the cell of each of these raw facts that it rolls up.
pub record IsSizedRule (mark : ℤ) (facts : List Fact) (r : RuleData) : Type 0 where
  pub least : index_of r.rule least_time ≤ℤ r.low
  pub most : r.low ≤ℤ (index_of r.rule mark +ℤ pos 1)
  pub there : (f : Fact) → Among f facts
      → IsTrue (is_rolled r.rule f) → r.low ≤ℤ (cell_of r.rule f).index → Among (cell_of r.rule f) (finmap.keys r.cells)

-- No count overflows, where n facts were accepted. There are at most 1,000,000 series, each one that a line can state.
-- Columns are distinct, their series are registered, and their fields are names of fields. Each raw fact exists once.
pub record IsSizedContent (n : ℕ) (all : List Series) (held : List ColumnPoints) : Type 0 where
  pub accepted : n ≤ 2 ^ 62
  pub facts : length (facts_of held) ≤ n
  pub series : length all ≤ 1000000
  pub named : (s : Series) → Among s all → IsStatable s
  pub columns : AllDistinct (map column_of held)
  pub registered : (c : Column) → Among c (map column_of held) → Among c.series all
  pub keys : (c : Column) → Among c (map column_of held) → IsKey c.field
  pub once : AllDistinct (facts_of held)

-- the settings have no fault, and content and rules are as above
pub record IsSized (k : StoreData) : Type 0 where
  pub settings : settings_fault (store_settings k) ≡ None
  pub content : IsSizedContent k.accepted k.series k.columns
  pub open content use *
  pub rules : AllByRecursion (IsSizedRule k.raw_mark (facts_of k.columns)) k.rules
