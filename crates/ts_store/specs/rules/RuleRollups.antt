-- The rollup of one rule over columns that exist already. (Own rules.)
use Rattle.std.specs.Prelude.{◌≡◌, ℕ, ℤ, List, [], ◌∷◌, ◌++◌, length, map, take}
use Rattle.std.specs.List.{remove}
use Rattle.std.specs.FinMap as finmap
use Rattle.ts_core.specs.facts.Facts.{Column}
use Rattle.ts_core.specs.settings.Settings.{Rule}
use Rattle.ts_core.specs.store.StoreStates.{column_of, facts_of}
use Rattle.ts_core.specs.moves.RuleMoves.{IsFresh}
use Rattle.ts_store.specs.store.PossibleCells.{HasPossibleCells}
use Rattle.ts_store.specs.store.ColumnStates.{StoreContent}
use Rattle.ts_store.specs.store.Inventories.{AreFilled}
use Rattle.ts_store.specs.rollup.Rollups.{RollupState, HaveRollupSeries}

-- the first of these columns have their rollup series, and there are no cells yet
pub record HasFirstRollupSeries (r : Rule) (columns : List Column) (n : ℕ) (s : RollupState) : Type 0 where
  pub series : HaveRollupSeries r s.grid.rollup_series (take n columns) s.series_of_column
  pub many : length s.series_of_column ≡ n
  pub cells : s.grid.cells ≡ finmap.empty

-- each column has its rollup series, and the rollup has exactly the cells of the raw facts from the low index on
pub record IsRollupOf (held : StoreContent) (r : Rule) (low : ℤ) (s : RollupState) : Type 0 where
  pub series : HaveRollupSeries r s.grid.rollup_series (map column_of held.columns) s.series_of_column
  pub fresh : IsFresh r low (facts_of held.columns) s.grid.cells
  pub filled : AreFilled (facts_of held.columns) r low (finmap.keys s.grid.cells)
  pub possible : HasPossibleCells r s.grid.cells

-- the rollup of one more rule
abbrev pub with_rollup : RollupState → StoreContent → StoreContent
with_rollup s held = record held { rollups = held.rollups ++ s ∷ [] }

-- without that of the rule with this index
abbrev pub without_rollup : ℕ → StoreContent → StoreContent
without_rollup n held = record held { rollups = remove held.rollups n }
