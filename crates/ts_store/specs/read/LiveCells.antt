-- Cells of an iterator, each with both its parts. (Own rules.)
use Rattle.std.specs.Prelude.{ℕ, ℤ, pos, ◌+◌, ◌^◌, ◌≤◌, ◌<◌, List, length, map, get_or}
use Rattle.std.specs.List.{AllByRecursion}
use Rattle.ts_core.specs.settings.Settings.{Rule}
use Rattle.ts_core.specs.store.StoreStates.{CellParts}
use Rattle.ts_core.specs.store.StoreData.{rule_cells, IsLive}
use Rattle.ts_cells.specs.Walks.{CellWithPart}
use Rattle.ts_store.specs.store.ColumnStates.{StoreContent}
use Rattle.ts_store.specs.store.CellCounts.{HoldsFew}
use Rattle.ts_store.specs.rollup.Rollups.{RollupState, new_rollup}
use Rattle.ts_store.specs.read.ViewResults.{SeenCell, cells_within}

abbrev pub walked_cell : CellWithPart CellParts → SeenCell
walked_cell k = record { cell = k.cell; parts = k.part }

abbrev pub walked_cells : List (CellWithPart CellParts) → List SeenCell
walked_cells ks = map walked_cell ks

-- the cell's facts are few enough to count
abbrev pub IsWhole : CellWithPart CellParts → Type 0
IsWhole k = k.part.frozen.count + k.part.live.count ≤ 2 ^ 62

abbrev pub AreWhole : List (CellWithPart CellParts) → Type 0
AreWhole ks = AllByRecursion IsWhole ks

-- ---- the cells of the rule with this index

abbrev pub rollup_at : List RollupState → ℕ → RollupState
rollup_at ss n = get_or ss n new_rollup

-- its cells from index a, inclusive, to index b, exclusive, with their parts, regardless of its low index
abbrev pub cells_of_rule : StoreContent → Rule → ℕ → ℤ → ℤ → List SeenCell
cells_of_rule held r n a b =
    cells_within (rule_cells (record { rule = r; low = pos 0; cells = (rollup_at held.rollups n).grid.cells })) a b

-- the live part of each cell of the rule with this index is that of its raw facts, and its facts are few enough to
-- count
pub record IsRuled (held : StoreContent) (r : Rule) (n : ℕ) : Type 0 where
  pub there : n < length held.rollups
  pub live : IsLive held.columns r (rollup_at held.rollups n).grid.cells
  pub few : HoldsFew (2 ^ 62) held.columns r (rollup_at held.rollups n).grid.cells
