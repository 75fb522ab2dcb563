-- The number of cells that have frozen facts. (Own rules.)
use Rattle.std.specs.Prelude.{◌≡◌, ℕ, nat_lt, Bool, List, Option, Some, None, length, filter, if◌then◌else◌}
use Rattle.std.specs.FinMap as finmap
use Rattle.std.specs.FinMap.{FinMap}
use Rattle.ts_core.specs.store.Cells.{Cell, cell_cmp}
use Rattle.ts_core.specs.store.TwoParts.{PartsOf}
use Rattle.ts_cells.specs.Grids.{RollupSeries, RowOf, IsGrid, grid_of}

abbrev pub has_frozen_facts : {P : Type 0} → (P → ℕ) → PartsOf P → Bool
has_frozen_facts size p = nat_lt 0 (size p.frozen)

-- 1 for a cell with frozen facts, 0 for any other
abbrev pub frozen_one : {P : Type 0} → (P → ℕ) → PartsOf P → ℕ
frozen_one size p = if has_frozen_facts size p then 1 else 0

-- 1 if there is a cell and it has frozen facts, or else 0
abbrev pub frozen_at : {P : Type 0} → (P → ℕ) → Option (PartsOf P) → ℕ
frozen_at size None = 0
frozen_at size (Some p) = frozen_one size p

-- the number of cells that have frozen facts
abbrev pub frozen_cell_count : {P : Type 0} → (P → ℕ) → FinMap cell_cmp (PartsOf P) → ℕ
frozen_cell_count {P} size m = length (filter (λ (e : Cell × PartsOf P). has_frozen_facts size e.1) (finmap.entries m))

-- the rows are a grid, and this many of its cells have frozen facts
pub record IsCountedGrid {P : Type 0} (size : P → ℕ)
    (ls : List RollupSeries) (rows : List (RowOf (PartsOf P))) (frozen : ℕ) : Type 0 where
  pub grid : IsGrid ls rows
  pub counted : frozen ≡ frozen_cell_count size (grid_of ls rows).cells
