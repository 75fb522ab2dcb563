-- The effect of a line on columns and on rollups: its facts are inserted, or the call ran out of memory. (Own rules.)
use Rattle.std.specs.Prelude.{◌≡◌, ◌⊎◌, ℕ, ℤ, List, [], map, Result, OnOk}
use Rattle.std.specs.List.{AllByRecursion}
use Rattle.ts_core.specs.settings.Settings.{Rule}
use Rattle.ts_core.specs.facts.Times.{least_time}
use Rattle.ts_core.specs.store.History.{MayBeTaken}
use Rattle.ts_core.specs.store.StoreStates.{column_of}
use Rattle.ts_core.specs.store.StoreData.{CellMap, OfEachRule}
use Rattle.ts_core.specs.moves.StoreMoves.{PutsFacts, GainEmptyCells}
use Rattle.ts_line.specs.Parts.{Parts, series_of, line_facts}
use Rattle.ts_core.specs.lists.Numbered.{Gains}
use Rattle.ts_raw.specs.Columns.{ColumnState}
use Rattle.ts_raw.specs.Indexed.{Indexed}
use Rattle.ts_store.specs.store.ColumnStates.{StoreContent, IsSoundContent, AreStaged, AreKnown, columns_in}
use Rattle.ts_store.specs.store.RuleLists.{rules_with}
use Rattle.ts_store.specs.rollup.Rollups.{AreRollups, cells_of}
use Rattle.ts_store.specs.write.LinesPut.{PutsCells, GainsCells}
use Rattle.ts_store.specs.write.Registered.{MayGain, MakesAll, MakesFirst, new_columns, with_columns}

-- The effect of a call that stages a line's points, each in its column, and returns the indices of these columns.
-- Missing columns are created, in the order in which fields first occur; when out of memory, the first of them.
pub record StagesPoint {E : Type 0} (p : Parts) (before : Indexed) (states : List ColumnState)
    (after : Indexed) (states' : List ColumnState) (numbers : List ℕ) (result : Result (Unit {0}) E) : Type 0 where
  pub staged : OnOk result (AreStaged after.columns states' numbers (line_facts p))
  pub taken : OnOk result (AllByRecursion (MayBeTaken least_time) (line_facts p))
  pub all : OnOk result (MakesAll (columns_in before states) (columns_in after states') (line_facts p))
  pub made : MakesFirst (columns_in before states) (columns_in after states') (line_facts p)
  pub held : IsSoundContent after states'
  pub series : after.series ≡ before.series

-- Under these rules the line's series is registered, and its new columns and the missing cells of its facts from low
-- indices on are created. Then the facts are inserted, into columns and cells. Their times are at or above the least
-- time.
pub record PutsLine (rules : List Rule) (lows : List ℤ) (old new : StoreContent) (p : Parts) : Type 0 where
  pub series : Gains old.series new.series (series_of p)
  -- the cells before the first fact is inserted
  pub cells_between : List CellMap
  pub facts : PutsFacts (with_columns old.columns (new_columns (map column_of old.columns) (line_facts p)))
      (rules_with rules lows cells_between) new.columns (rules_with rules lows (cells_of new.rollups)) (line_facts p)
  pub taken : AllByRecursion (MayBeTaken least_time) (line_facts p)
  pub known : AreKnown new
  pub rollups : AreRollups rules (map column_of new.columns) new.rollups
  pub has_cells : GainEmptyCells
      (line_facts p) (rules_with rules lows (cells_of old.rollups)) (rules_with rules lows cells_between)
  pub cells : OfEachRule (PutsCells (line_facts p))
      (rules_with rules lows (cells_of old.rollups)) (rules_with rules lows (cells_of new.rollups))

-- when out of memory, the series may be registered, and the first of the new columns and some of the cells created
pub record GrowsForLine (rules : List Rule) (lows : List ℤ) (old new : StoreContent) (p : Parts) : Type 0 where
  pub series : MayGain old.series new.series (series_of p)
  pub columns : MakesFirst old.columns new.columns (line_facts p)
  pub known : AreKnown new
  pub rollups : AreRollups rules (map column_of new.columns) new.rollups
  pub has_cells : GainEmptyCells []
      (rules_with rules lows (cells_of old.rollups)) (rules_with rules lows (cells_of new.rollups))
  pub cells : OfEachRule (GainsCells (line_facts p))
      (rules_with rules lows (cells_of old.rollups)) (rules_with rules lows (cells_of new.rollups))
  -- cells are created only for facts that may be accepted
  pub taken : (cells_of new.rollups ≡ cells_of old.rollups) ⊎ AllByRecursion (MayBeTaken least_time) (line_facts p)
