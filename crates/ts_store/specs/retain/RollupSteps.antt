-- The effect of a step of a run on the cells of rules: points of a column are frozen. (Own rules.)
use Rattle.std.specs.Prelude.{◌≡◌, ℕ, ℤ, ◌+◌, ◌^◌, ◌≤◌, List, filter, length, map, Some}
use Rattle.std.specs.FinMap as finmap
use Rattle.ts_core.specs.lists.Beside.{OfEach, changed_beside}
use Rattle.ts_core.specs.facts.Facts.{Column, Fact}
use Rattle.ts_core.specs.settings.Settings.{Rule}
use Rattle.ts_core.specs.aggregates.Aggregates.{Aggregate, merged_within}
use Rattle.ts_core.specs.store.Cells.{Cell, is_in_cell, total_of}
use Rattle.ts_core.specs.lists.Changes.{changed}
use Rattle.ts_core.specs.store.TwoParts.{in_frozen}
use Rattle.ts_core.specs.store.StoreStates.{ColumnPoints, CellParts, fact_at, facts_of}
use Rattle.ts_core.specs.store.StoreData.{CellMap}
use Rattle.ts_core.specs.moves.StoreMoves.{refolded, moved_cells, points_below, kept_points}
use Rattle.ts_store.specs.store.CellCounts.{frozen_count}
use Rattle.ts_raw.specs.Columns.{ColumnState}
use Rattle.ts_store.specs.store.ColumnStates.{StoreContent, with_points, point_maps}
use Rattle.ts_store.specs.rollup.Rollups.{RollupState, with_grid_cells, cells_of}

-- other cells for each rule, under the same rollup series
abbrev pub with_all_grid_cells : List CellMap → List RollupState → List RollupState
with_all_grid_cells = changed_beside with_grid_cells

abbrev pub content_with_cells : List CellMap → StoreContent → StoreContent
content_with_cells ms held = record held { rollups = with_all_grid_cells ms held.rollups }

-- ---- a column is moved

-- the facts that columns have when one of them has no point below a mark
abbrev pub facts_left : ℤ → Column → List Column → List ColumnState → List Fact
facts_left mark c cs states = facts_of (map (kept_points c mark) (with_points cs (point_maps states)))

-- the number of points of a column that are in a cell of a rule
abbrev pub points_in_cell : Rule → Column → Cell → List (ℤ × ℤ) → ℕ
points_in_cell r c k ps = length (filter (λ (p : ℤ × ℤ). is_in_cell r k (fact_at c p)) ps)

-- merges a part into the frozen part of a cell, and folds the live part anew from these facts, if the cell exists
abbrev pub bucket_moved : Rule → Cell → Aggregate → List Fact → CellMap → CellMap
bucket_moved r k part facts m = refolded r k facts (changed m k (in_frozen (merged_within part)))

-- the live part of the cell, if it exists, is the aggregate of the facts in it
abbrev pub HasLive : Rule → Cell → List Fact → CellMap → Type 0
HasLive r k facts m = (p : CellParts) → finmap.get m k ≡ Some p → p.live ≡ total_of r k facts

-- each cell holds at most 2^62 facts, with these points
abbrev pub FreezesFit : Rule → Column → List (ℤ × ℤ) → CellMap → Type 0
FreezesFit r c ps m = (k : Cell) → frozen_count m k + points_in_cell r c k ps ≤ 2 ^ 62

-- the same for each rule
abbrev pub FreezeFit : List Rule → Column → List (ℤ × ℤ) → List CellMap → Type 0
FreezeFit rs c ps = OfEach (λ (r : Rule). FreezesFit r c ps) rs

-- the points are moved from the live to the frozen parts of each rule's cells
abbrev pub cells_moved : List Rule → Column → List (ℤ × ℤ) → List Fact → List CellMap → List CellMap
cells_moved rs c ps facts = changed_beside (λ (r : Rule). moved_cells r c ps facts) rs

-- the points of a column below a mark are frozen under each rule and removed; the live parts of their cells are folded
-- from the remaining points
abbrev pub content_moved : List Rule → ColumnPoints → ℤ → StoreContent → StoreContent
content_moved rs s mark held = record held {
  columns = map (kept_points s.column mark) held.columns;
  rollups = with_all_grid_cells (cells_moved rs s.column (points_below mark s.points)
      (facts_of (map (kept_points s.column mark) held.columns)) (cells_of held.rollups)) held.rollups;
}
