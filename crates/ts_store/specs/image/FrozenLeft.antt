-- The remaining cells of an iterator over frozen parts, and the buckets in its range. (Own rules.)
use Rattle.std.specs.Prelude.{ℕ, ◌<◌, pos, ◌≤ℤ◌, FitsSigned, Bool, nat_lt, List, length, map, filter}
use Rattle.std.specs.Int.{w64}
use Rattle.ts_core.specs.settings.Settings.{Rule}
use Rattle.ts_core.specs.store.StoreStates.{CellParts}
use Rattle.ts_cells.specs.Walks.{CellWithPart}
use Rattle.ts_store.specs.store.PossibleCells.{HasPossibleCells}
use Rattle.ts_store.specs.store.ColumnStates.{StoreContent}
use Rattle.ts_store.specs.read.LiveCells.{rollup_at}
use Rattle.ts_store.specs.image.SavedContent.{FrozenCell}

-- the cell has frozen facts
abbrev pub holds_frozen : CellWithPart CellParts → Bool
holds_frozen k = nat_lt 0 k.part.frozen.count

abbrev pub frozen_cell : CellWithPart CellParts → FrozenCell
frozen_cell k = record { cell = k.cell; frozen = k.part.frozen }

abbrev pub frozen_left : List (CellWithPart CellParts) → List FrozenCell
frozen_left ks = map frozen_cell (filter holds_frozen ks)

-- the indices of the cells of the rule with this index fit 64 bits
pub record HasNearCells (held : StoreContent) (r : Rule) (n : ℕ) : Type 0 where
  pub there : n < length held.rollups
  pub second : pos 1000000000 ≤ℤ r.interval
  pub offset : FitsSigned w64 r.offset
  pub possible : HasPossibleCells r (rollup_at held.rollups n).grid.cells
