-- The cells of a column's points under a rule: they are created, or the points are added to them. (Own rules.)
use Rattle.std.specs.Prelude.{◌≡◌, ◌≤◌, ◌++◌, ◌^◌, ℕ, ℤ, List, length, Option}
use Rattle.ts_core.specs.facts.Facts.{Column, Fact}
use Rattle.ts_core.specs.lists.Beside.{OfEach}
use Rattle.ts_core.specs.lists.Numbered.{IsAt}
use Rattle.ts_core.specs.settings.Settings.{Rule}
use Rattle.ts_core.specs.store.StoreData.{IsLive, OfEachRule}
use Rattle.ts_core.specs.store.StoreStates.{facts_at, facts_of}
use Rattle.ts_raw.specs.Columns.{ColumnState}
use Rattle.ts_store.specs.image.BuildingParts.{AreIdle, MakesCells, KeepsFrozen, IsFilledBut, AreFilledBut}
use Rattle.ts_store.specs.rollup.Rollups.{RollupState, AreRollups, IsRollupSeriesOf, cells_of, with_grid_cells}
use Rattle.ts_store.specs.store.ColumnStates.{with_points, point_maps}
use Rattle.ts_store.specs.store.RuleLists.{rules_with}

-- the missing cells of points of a column of the rollup series with this index, if there is one, are created from the
-- low index on
pub record MakesPoints (r : Rule) (low : ℤ) (series : Option ℕ) (ps : List (ℤ × ℤ)) (s t : RollupState) : Type 0 where
  pub kept : t ≡ with_grid_cells t.grid.cells s
  pub cells : (c : Column)
      → IsRollupSeriesOf r c s.grid.rollup_series series → MakesCells (facts_at c ps) r low s.grid.cells t.grid.cells

-- points of such a column are added to the live parts of their cells: they are no longer among those to be added
pub record AddsPoints (r : Rule) (series : Option ℕ) (ps : List (ℤ × ℤ)) (s t : RollupState) : Type 0 where
  pub kept : t ≡ with_grid_cells t.grid.cells s
  pub frozen : KeepsFrozen s.grid.cells t.grid.cells
  pub live : (c : Column) (left all : List Fact) → IsRollupSeriesOf r c s.grid.rollup_series series
      → length all ≤ 2 ^ 62 → IsFilledBut (facts_at c ps ++ left) all r s.grid.cells
      → IsFilledBut left all r t.grid.cells

-- under each rule, the missing cells of points of the column with this index are created
abbrev pub MakePoints : List Rule → List ℤ → ℕ → List (ℤ × ℤ) → List RollupState → List RollupState → Type 0
MakePoints rs lows n ps us vs = (cs : List Column) (c : Column) → IsAt cs n c → AreRollups rs cs us
    → OfEachRule (MakesCells (facts_at c ps)) (rules_with rs lows (cells_of us)) (rules_with rs lows (cells_of vs))

-- the same of all points of columns
abbrev pub MakeAllPoints : List Rule → List ℤ → List ColumnState → List RollupState → List RollupState → Type 0
MakeAllPoints rs lows ss us vs = (cs : List Column) → length ss ≡ length cs → AreRollups rs cs us
    → OfEachRule (MakesCells (facts_of (with_points cs (point_maps ss))))
    (rules_with rs lows (cells_of us)) (rules_with rs lows (cells_of vs))

-- under each rule, points of the column with this index are no longer among those to be added
abbrev pub AddPoints : List Rule → ℕ → List (ℤ × ℤ) → List RollupState → List RollupState → Type 0
AddPoints rs n ps us vs = (cs : List Column) (c : Column) (left all : List Fact) → IsAt cs n c → AreRollups rs cs us
    → length all ≤ 2 ^ 62 → AreFilledBut (facts_at c ps ++ left) all rs (cells_of us)
    → AreFilledBut left all rs (cells_of vs)

-- live parts without facts are filled with all points of columns
abbrev pub AddAllPoints : List Rule → List ColumnState → List RollupState → List RollupState → Type 0
AddAllPoints rs ss us vs = (cs : List Column) → length ss ≡ length cs → AreRollups rs cs us → AreIdle (cells_of us)
    → OfEach (IsLive (with_points cs (point_maps ss))) rs (cells_of vs)
