-- A column's points below a mark that move from the live to the frozen parts of their cells. (Own rules.)
use Rattle.std.specs.Prelude.{◌≡◌, ℕ, ℤ, List, get_or, Some}
use Rattle.std.specs.FinMap as finmap
use Rattle.ts_core.specs.facts.Facts.{Column}
use Rattle.ts_core.specs.settings.Settings.{Rule}
use Rattle.ts_core.specs.aggregates.Aggregates.{Aggregate}
use Rattle.ts_core.specs.lists.Numbered.{IsAt}
use Rattle.ts_core.specs.store.Cells.{total_of}
use Rattle.ts_core.specs.store.StoreStates.{facts_at, facts_of}
use Rattle.ts_core.specs.moves.StoreMoves.{points_below}
use Rattle.ts_cells.specs.Grids.{cell_at}
use Rattle.ts_raw.specs.Columns.{ColumnState}
use Rattle.ts_store.specs.store.ColumnStates.{no_column, with_points, point_maps}
use Rattle.ts_store.specs.rollup.Rollups.{RollupState, rollup_series_at, rollup_series_under, cells_of}
use Rattle.ts_store.specs.retain.RollupSteps.{HasLive, FreezeFit, bucket_moved, facts_left, with_all_grid_cells, cells_moved}
use Rattle.ts_store.specs.write.LivePuts.{IsOver}
use Rattle.ts_store.specs.write.PointPuts.{AreLiveOver}

-- the points of the column with this index below a mark
abbrev pub column_below : ℤ → ℕ → List ColumnState → List (ℤ × ℤ)
column_below mark column states = points_below mark (finmap.entries (get_or states column no_column).points)

-- the column with this index is rolled up, this is the aggregate of its points below the mark in the bucket with this
-- index, and their cell's live part is of the raw facts
pub record IsBucketPart (r : Rule) (cs : List Column) (states : List ColumnState)
    (column : ℕ) (mark index : ℤ) (part : Aggregate) (s : RollupState) (c : Column) : Type 0 where
  pub rolled : (l : ℕ) × (rollup_series_at s column ≡ Some l)
  pub over : IsOver r cs states s
  pub at : IsAt cs column c
  pub live : HasLive r
      (cell_at index (rollup_series_under r c)) (facts_of (with_points cs (point_maps states))) s.grid.cells
  pub total : part ≡ total_of r (cell_at index (rollup_series_under r c)) (facts_at c (column_below mark column states))

-- then the part is moved
abbrev pub MovesBucket : Rule → List ColumnState → ℕ → ℤ → ℤ → Aggregate → RollupState → RollupState → Type 0
MovesBucket r states column mark index part s t =
    (cs : List Column) (c : Column) → IsBucketPart r cs states column mark index part s c
    → t.grid.cells
    ≡ bucket_moved r (cell_at index (rollup_series_under r c)) part (facts_left mark c cs states) s.grid.cells

-- the column has this index, and the frozen parts of the rules' cells have room for its points below the mark
pub record MayMove (rules : List Rule) (cs : List Column)
    (states : List ColumnState) (column : ℕ) (mark : ℤ) (us : List RollupState) (c : Column) : Type 0 where
  pub over : AreLiveOver rules cs states (with_points cs (point_maps states)) us
  pub at : IsAt cs column c
  pub fit : FreezeFit rules c (column_below mark column states) (cells_of us)

-- then they are moved
abbrev pub MovesPoints : List Rule → List ColumnState → ℕ → ℤ → List RollupState → List RollupState → Type 0
MovesPoints rules states column mark us us' =
    (cs : List Column) (c : Column) → MayMove rules cs states column mark us c
    → us' ≡ with_all_grid_cells
    (cells_moved rules c (column_below mark column states) (facts_left mark c cs states) (cells_of us)) us
