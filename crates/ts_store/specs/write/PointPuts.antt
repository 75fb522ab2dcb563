-- Points that are committed to their columns, and the cells that then hold them. (Own rules.)
use Rattle.std.specs.Prelude.{◌≡◌, ℕ, ℤ, List, length, Option}
use Rattle.ts_core.specs.lists.Members.{AllDistinct}
use Rattle.ts_core.specs.lists.Beside.{OfEach, changed_beside}
use Rattle.ts_core.specs.facts.Facts.{Column, Fact}
use Rattle.ts_core.specs.settings.Settings.{Rule}
use Rattle.ts_core.specs.store.StoreStates.{ColumnPoints, facts_of}
use Rattle.ts_core.specs.store.StoreData.{CellMap, IsLive}
use Rattle.ts_core.specs.moves.StoreMoves.{put_cell, PutsFacts}
use Rattle.ts_line.specs.Parts.{LinePart}
use Rattle.ts_raw.specs.Columns.{ColumnState}
use Rattle.ts_store.specs.store.ColumnStates.{with_points, point_maps, AreStaged}
use Rattle.ts_store.specs.store.RuleLists.{rules_with}
use Rattle.ts_store.specs.rollup.Rollups.{RollupState, AreRollups, cells_of}
use Rattle.ts_store.specs.write.LivePuts.{IsLivePut, AreOfFields}

-- each rule has its rollup over the columns of these names, and the live parts of its cells are of these facts
pub record AreLiveOver (rules : List Rule)
    (cs : List Column) (states : List ColumnState) (before : List ColumnPoints) (us : List RollupState) : Type 0 where
  pub each : length states ≡ length cs
  pub once : AllDistinct cs
  pub rollups : AreRollups rules cs us
  pub live : OfEach (IsLive before) rules (cells_of us)

-- a fact of this time and value was inserted into the column with this index, whose value there was `old`, or none
pub record IsPointPut (cs : List Column) (states : List ColumnState)
    (before : List ColumnPoints) (column : ℕ) (time value : ℤ) (old : Option ℤ) (f : Fact) : Type 0 where
  pub same_time : f.time ≡ time
  pub same_value : f.value ≡ value
  pub put : IsLivePut cs states before column f old

-- the fact is put into the cells of each rule
abbrev pub cells_put : List Rule → Fact → List Fact → List CellMap → List CellMap
cells_put rules f facts = changed_beside (λ (r : Rule). put_cell r f facts) rules

-- after that, the fact is put into its cells
abbrev pub PutsPoint : List Rule → List ColumnState → ℕ → ℤ → ℤ → Option ℤ
    → List RollupState → List RollupState → Type 0
PutsPoint rules states column time value old us us' =
    (cs : List Column) (before : List ColumnPoints) (f : Fact)
    → AreLiveOver rules cs states before us → IsPointPut cs states before column time value old f
    → cells_of us' ≡ cells_put rules f (facts_of (with_points cs (point_maps states))) (cells_of us)

-- facts of this time with the values of fields are staged in the columns with these indices
pub record ArePointsStaged (cs : List Column) (states : List ColumnState)
    (columns : List ℕ) (time : ℤ) (fields : List (LinePart × ℤ)) (fs : List Fact) : Type 0 where
  pub values : AreOfFields time fields fs
  pub staged : AreStaged cs states columns fs

-- the facts that are staged are put into their columns and cells, one after another, whatever the low indices are
abbrev pub CommitsPoints : List Rule → List ℕ → ℤ → List (LinePart × ℤ)
    → List ColumnState → List RollupState → List ColumnState → List RollupState → Type 0
CommitsPoints rules columns time fields states us states' us' =
    (cs : List Column) (lows : List ℤ) (fs : List Fact)
    → AreLiveOver rules cs states (with_points cs (point_maps states)) us
    → ArePointsStaged cs states columns time fields fs
    → PutsFacts (with_points cs (point_maps states)) (rules_with rules lows (cells_of us))
    (with_points cs (point_maps states')) (rules_with rules lows (cells_of us')) fs
