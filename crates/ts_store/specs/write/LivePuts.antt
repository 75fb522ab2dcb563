-- A fact that is inserted into its column, and the resulting cells. (Own rules.)
use Rattle.std.specs.Prelude.{◌≡◌, ℕ, ℤ, ◌+◌, ◌≤◌, ◌^◌, false, List, length, slice_get, Option, Some, None}
use Rattle.std.specs.List.{AllZip}
use Rattle.ts_core.specs.lists.Members.{Among, AllDistinct}
use Rattle.ts_core.specs.facts.Facts.{Column, Fact, id_of, same_id}
use Rattle.ts_core.specs.settings.Settings.{Rule}
use Rattle.ts_core.specs.store.StoreStates.{ColumnPoints, facts_of}
use Rattle.ts_core.specs.moves.StoreLaws.{IsOldOf}
use Rattle.ts_core.specs.store.StoreData.{CellMap, AreLive}
use Rattle.ts_core.specs.moves.StoreMoves.{PutsFact, GainEmptyCells}
use Rattle.ts_line.specs.Parts.{LinePart}
use Rattle.ts_raw.specs.Columns.{ColumnState}
use Rattle.ts_store.specs.store.ColumnStates.{with_points, point_maps}
use Rattle.ts_store.specs.store.RuleLists.{rules_with}
use Rattle.ts_store.specs.rollup.Rollups.{RollupState, HaveRollupSeries}

-- the columns of these names have these points, and a rollup series each
pub record IsOver (r : Rule) (cs : List Column) (states : List ColumnState) (s : RollupState) : Type 0 where
  pub each : length states ≡ length cs
  pub once : AllDistinct cs
  pub series : HaveRollupSeries r s.grid.rollup_series cs s.series_of_column

-- the id of the fact had this value, or none
abbrev pub WasThere : List ColumnPoints → Fact → Option ℤ → Type 0
WasThere before f None = (g : Fact) → Among g (facts_of before) → same_id (id_of g) (id_of f) ≡ false
WasThere before f (Some v) = IsOldOf before f (record f { value = v })

-- the fact was inserted into the column with this index, whose value there was this, or none
pub record IsLivePut (cs : List Column)
    (states : List ColumnState) (before : List ColumnPoints) (n : ℕ) (f : Fact) (old : Option ℤ) : Type 0 where
  pub at : slice_get cs n ≡ Some f.column
  pub distinct : AllDistinct (facts_of before)
  pub put : PutsFact before (with_points cs (point_maps states)) f
  pub few : length (facts_of before) + 1 ≤ 2 ^ 62
  pub was : WasThere before f old

-- the facts are of this time, and have the values of fields
abbrev pub AreOfFields : ℤ → List (LinePart × ℤ) → List Fact → Type 0
AreOfFields time = AllZip (λ (x : LinePart × ℤ) (f : Fact). (f.time ≡ time) × (f.value ≡ x.1))

-- with more cells created, the live part of each existing cell is still that of its raw facts
abbrev pub StayLive : List Rule → List ℤ → List ColumnPoints → List CellMap → Type 0
StayLive rs lows columns ms = (facts : List Fact) (ns : List CellMap)
    → GainEmptyCells facts (rules_with rs lows ms) (rules_with rs lows ns) → AreLive columns (rules_with rs lows ns)
