-- Creation of the cells of columns' points at one time. (Own rules.)
use Rattle.std.specs.Prelude.{◌≡◌, ℕ, ℤ, int_lt, List, [], ◌∷◌, map, take, if◌then◌else◌}
use Rattle.std.specs.List.{AllZip, zip}
use Rattle.ts_core.specs.lists.Beside.{changed_beside}
use Rattle.ts_core.specs.settings.Settings.{Rule}
use Rattle.ts_core.specs.store.Marks.{index_of}
use Rattle.ts_store.specs.rollup.ChangedLists.{ChangesBeside}
use Rattle.ts_store.specs.rollup.Rollups.{RollupState, with_grid_cells, cell_created_in, rollup_series_at}

-- the index of a time's bucket under each rule
abbrev pub bucket_indices : List Rule → ℤ → List ℤ
bucket_indices rules time = map (λ (r : Rule). index_of r time) rules

-- with the cells of a bucket, column after column
abbrev pub cells_created_for : ℤ → List ℕ → RollupState → RollupState
cells_created_for index [] s = s
cells_created_for index (n ∷ ns) s =
    cells_created_for index ns (with_grid_cells (cell_created_in s (rollup_series_at s n) index) s)

-- from a low index on
abbrev pub cells_created_from : ℤ → ℤ → List ℕ → RollupState → RollupState
cells_created_from low index ns s = if int_lt index low then s else cells_created_for index ns s

-- the same under each rule, in the bucket with its index
abbrev pub cells_created_under : List ℤ → List ℤ → List ℕ → List RollupState → List RollupState
cells_created_under buckets lows ns = changed_beside (λ (x : ℤ × ℤ). cells_created_from x.1 x.0 ns) (zip buckets lows)

-- with the cells of a bucket, of the first of the columns
abbrev pub IsCreatedInPart : ℤ → ℤ → List ℕ → RollupState → RollupState → Type 0
IsCreatedInPart low index ns s t = (n : ℕ) × (t ≡ cells_created_from low index (take n ns) s)

-- the same under each rule, in the bucket with its index
abbrev pub AreCreatedInPart : List ℤ → List ℤ → List ℕ → List RollupState → List RollupState → Type 0
AreCreatedInPart buckets lows ns = ChangesBeside (λ (x : ℤ × ℤ). IsCreatedInPart x.1 x.0 ns) (zip buckets lows)

-- the cells of a rule may have changed, and nothing else
abbrev pub KeepsRollupSeries : RollupState → RollupState → Type 0
KeepsRollupSeries s t = t ≡ with_grid_cells t.grid.cells s

-- the same for each rule
abbrev pub KeepRollupSeries : List RollupState → List RollupState → Type 0
KeepRollupSeries = AllZip KeepsRollupSeries
