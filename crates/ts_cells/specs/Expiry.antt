-- Removal of cells below an index. (Own rules.)
use Rattle.std.specs.Prelude.{◌≡◌, ◌≢◌, ℕ, zero, suc, ℤ, ◌<◌, ◌≤◌, ◌<ℤ◌, ◌≤ℤ◌, ◌==◌, ◌&&◌, List, length, Some, None, if◌then◌else◌}
use Rattle.std.specs.Ordering.{int_cmp, eq_by_cmp}
use Rattle.std.specs.List.{AllWithin}
use Rattle.std.specs.FinMap as finmap
use Rattle.std.specs.FinMap.{FinMap}
use Rattle.ts_core.specs.store.Cells.{Cell, cell_cmp}
use Rattle.ts_cells.specs.Grids.{RowOf, held, cells_of_bucket}

-- the first `count` rows have no cells
pub record HasEmptyFront {P : Type 0} (count : ℕ) (rows : List (RowOf P)) : Type 0 where
  pub bound : count ≤ length rows
  pub empty : AllWithin (λ (r : RowOf P). (j : ℕ) → held r.1 j ≡ None) rows 0 count

-- the rows lost the cell of one rollup series in one bucket below an index, which had this value, and no other
pub record LosesOne {P : Type 0} (low : ℤ) (part : P) (before after : List (RowOf P)) : Type 0 where
  pub index : ℤ
  pub series : ℕ
  pub below : index <ℤ low
  pub was : held (cells_of_bucket before index) series ≡ Some part
  pub cells : (i : ℤ) (j : ℕ) → held (cells_of_bucket after i) j
      ≡ (if eq_by_cmp int_cmp i index && (j == series) then None else held (cells_of_bucket before i) j)

-- no cell is below the index, and none was removed
pub record HasNoneBelow {P : Type 0} (low : ℤ) (before after : List (RowOf P)) : Type 0 where
  pub above : (i : ℤ) (j : ℕ) → held (cells_of_bucket after i) j ≢ None → low ≤ℤ i
  pub cells : (i : ℤ) (j : ℕ) → held (cells_of_bucket after i) j ≡ held (cells_of_bucket before i) j

-- removes one cell below the index
abbrev pub RemovesOne : {P : Type 0} → ℤ → FinMap cell_cmp P → FinMap cell_cmp P → Type 0
RemovesOne low m n = (k : Cell) × (k.index <ℤ low) × (finmap.get m k ≢ None) × (n ≡ finmap.remove m k)

-- removes `count` cells, one after another
abbrev pub Removes : {P : Type 0} → ℤ → ℕ → FinMap cell_cmp P → FinMap cell_cmp P → Type 0
Removes low zero m n = n ≡ m
Removes {P} low (suc count) m n = (between : FinMap cell_cmp P) × Removes low count m between × RemovesOne low between n

-- no cell is below an index
abbrev pub IsAbove : {P : Type 0} → ℤ → FinMap cell_cmp P → Type 0
IsAbove low m = (k : Cell) → finmap.get m k ≢ None → low ≤ℤ k.index

-- removes `count` cells below an index; if that is fewer than 256, none is left below it
pub record LosesBelow {P : Type 0} (low : ℤ) (count : ℕ) (before after : FinMap cell_cmp P) : Type 0 where
  pub few : count ≤ 256
  pub removed : Removes low count before after
  pub all : count < 256 → IsAbove low after
