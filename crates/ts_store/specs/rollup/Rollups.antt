-- The rollup of a rule: its cells, and the rollup series of each column. A rollup series is a field with a group,
-- referred to by its index. (Own rules.)
use Rattle.std.specs.Prelude.{◌≡◌, ◌==◌, nat_lt, Vec, vec_len, vec_capacity, ℕ, ℤ, Bool, true, false, get_or, List, [], ◌∷◌, ◌++◌, length, map, Option, Some, None, refl}
use Rattle.std.specs.List.{AllZip}
use Rattle.std.specs.FinMap as finmap
use Rattle.std.specs.Coded.{Coded, code_by, coded×, coded_ℕ, coded_list, coded_option}
use Rattle.ts_core.specs.lists.Members.{AllDistinct}
use Rattle.ts_core.specs.facts.Facts.{Column, same_text}
use Rattle.ts_core.specs.facts.Tags.{tag_values}
use Rattle.ts_core.specs.settings.Settings.{Rule}
use Rattle.ts_core.specs.aggregates.Aggregates.{Aggregate, merged_within}
use Rattle.ts_core.specs.lists.Changes.{changed}
use Rattle.ts_core.specs.store.TwoParts.{coded_parts, in_live}
use Rattle.ts_core.specs.store.StoreStates.{CellParts}
use Rattle.ts_core.specs.store.StoreCodes.{coded_aggregate}
use Rattle.ts_core.specs.store.StoreData.{CellMap, no_parts}
use Rattle.ts_cells.specs.CellChanges.{inserted_if_absent}
use Rattle.ts_cells.specs.Grids.{RollupSeries, Grid, cell_in, coded_grid}
use Rattle.ts_core.specs.lists.Numbered.{IsAt, numbers_where}
use Rattle.ts_store.specs.rollup.ColumnLists.{ColumnList, lists_in}

-- the cells of a rule; the rollup series of each column, if that is of the rule's measurement; and the rollup series of
-- the column to be created next, if prepared
pub record RollupState : Type 0 where
  pub grid : Grid CellParts
  pub series_of_column : List (Option ℕ)
  pub next : Option (Option ℕ)

-- an empty rollup
abbrev pub new_rollup : RollupState
new_rollup = record { grid = record { rollup_series = []; cells = finmap.empty }; series_of_column = []; next = None }

-- the cells of each rule
abbrev pub cells_of : List RollupState → List CellMap
cells_of states = map (λ (s : RollupState). s.grid.cells) states

-- ---- rollup series

-- the rollup series of a column under a rule: its field, and its values of the rule's kept tags
abbrev pub rollup_series_under : Rule → Column → RollupSeries
rollup_series_under r c = record { field = c.field; group = tag_values r.kept_tags c.series }

-- the rollup series with this index is that of the column; a column of another measurement has none
abbrev pub IsRollupSeriesOf : Rule → Column → List RollupSeries → Option ℕ → Type 0
IsRollupSeriesOf r c rollup_series None = same_text c.series.measurement r.measurement ≡ false
IsRollupSeriesOf r c rollup_series (Some l) =
    (same_text c.series.measurement r.measurement ≡ true) × IsAt rollup_series l (rollup_series_under r c)

-- each column has its rollup series
abbrev pub HaveRollupSeries : Rule → List RollupSeries → List Column → List (Option ℕ) → Type 0
HaveRollupSeries r rollup_series = AllZip (λ (c : Column). IsRollupSeriesOf r c rollup_series)

-- the rollups of the rules, one per rule, over these columns
abbrev pub AreRollups : List Rule → List Column → List RollupState → Type 0
AreRollups rs cs =
    AllZip (λ (r : Rule) (s : RollupState). HaveRollupSeries r s.grid.rollup_series cs s.series_of_column) rs

-- a column is of the rollup series with this index
abbrev pub is_of_rollup_series : ℕ → Option ℕ → Bool
is_of_rollup_series l None = false
is_of_rollup_series l (Some n) = n == l

-- the columns of the rollup series with this index, in creation order
abbrev pub columns_of_rollup_series : ℕ → RollupState → List ℕ
columns_of_rollup_series l s = numbers_where (is_of_rollup_series l) s.series_of_column

-- ---- rollup series in memory

-- a vector has capacity for one more
abbrev pub has_spare : {X A : Type 0} → Vec X A → Bool
has_spare v = nat_lt (vec_len v) (vec_capacity v)

-- if the rollup series of the next column is known, there is capacity for the column, and for its entry in the list of
-- its rollup series
abbrev pub HasSpares : Option (Option ℕ) → Bool → List Bool → Type 0
HasSpares None spare spares = Unit {0}
HasSpares (Some None) spare spares = spare ≡ true
HasSpares (Some (Some l)) spare spares = (spare ≡ true) × (get_or spares l false ≡ true)

-- the rollup series are distinct, each has the list of its columns, and there is capacity for the next column
pub record IsRollup (rollup_series : List RollupSeries) (of_columns : List (Option ℕ))
    (members : List (List ℕ)) (next : Option (Option ℕ)) (spare : Bool) (spares : List Bool) : Type 0 where
  pub once : AllDistinct rollup_series
  pub each : length members ≡ length rollup_series
  pub grouped : (l : ℕ) → get_or members l [] ≡ numbers_where (is_of_rollup_series l) of_columns
  pub capacity : HasSpares next spare spares

-- ---- growth

-- rollup series are appended
abbrev pub Extends : List RollupSeries → List RollupSeries → Type 0
Extends before after = (more : List RollupSeries) × (after ≡ before ++ more)

-- the effect of a call that returns a rollup series and creates it if needed. The rollup series stay distinct, each has
-- a list of columns, and no list and no cell changes.
pub record KeepsLists (before : Grid CellParts)
    (lists : List ColumnList) (after : Grid CellParts) (lists' : List ColumnList) : Type 0 where
  pub each : length lists' ≡ length after.rollup_series
  pub made : Extends before.rollup_series after.rollup_series
  pub once : AllDistinct before.rollup_series → AllDistinct after.rollup_series
  pub columns : (n : ℕ) → get_or (lists_in lists') n [] ≡ get_or (lists_in lists) n []
  pub cells : after.cells ≡ before.cells

-- the rollup series of columns and the cells stay; rollup series may have been created
pub record KeepsCells (before after : RollupState) : Type 0 where
  pub made : Extends before.grid.rollup_series after.grid.rollup_series
  pub cells : after.grid.cells ≡ before.grid.cells
  pub kept : after.series_of_column ≡ before.series_of_column

-- the same for each rule
abbrev pub KeepCells : List RollupState → List RollupState → Type 0
KeepCells = AllZip KeepsCells

-- a column is prepared: its rollup series is known
abbrev pub HasNext : Rule → Column → RollupState → Type 0
HasNext r c s = (o : Option ℕ) × (s.next ≡ Some o) × IsRollupSeriesOf r c s.grid.rollup_series o

-- the same for each rule
abbrev pub HaveNext : List Rule → Column → List RollupState → Type 0
HaveNext rs c = AllZip (λ (r : Rule). HasNext r c) rs

abbrev pub joined_rollup_series : List (Option ℕ) → Option (Option ℕ) → List (Option ℕ)
joined_rollup_series rollup_series None = rollup_series
joined_rollup_series rollup_series (Some o) = rollup_series ++ o ∷ []

-- the column is created: it gets its prepared rollup series
abbrev pub with_next : RollupState → RollupState
with_next s = record s { series_of_column = joined_rollup_series s.series_of_column s.next; next = None }

-- ---- cells

-- replaces the cells; the rollup series stay
abbrev pub with_grid_cells : CellMap → RollupState → RollupState
with_grid_cells m s = record s { grid = record s.grid { cells = m } }

-- creates the cell of a bucket in a rollup series unless it exists; does nothing without a rollup series
abbrev pub cell_created_in : RollupState → Option ℕ → ℤ → CellMap
cell_created_in s None index = s.grid.cells
cell_created_in s (Some l) index = inserted_if_absent s.grid.cells (cell_in s.grid.rollup_series index l) no_parts

-- merges a part into the live part of a cell
abbrev pub added_in : RollupState → ℕ → ℤ → Aggregate → CellMap
added_in s l index part = changed s.grid.cells (cell_in s.grid.rollup_series index l) (in_live (merged_within part))

-- the rollup series of the column with this index
abbrev pub rollup_series_at : RollupState → ℕ → Option ℕ
rollup_series_at s n = get_or s.series_of_column n None

-- the live part of a cell
abbrev pub live_part : CellParts → Aggregate
live_part p = p.live

-- ---- codes

abbrev pub coded_rollup : Coded RollupState
coded_rollup =
    code_by (Grid CellParts × (List (Option ℕ) × Option (Option ℕ)))
    (coded× (coded_grid (coded_parts coded_aggregate))
    (coded× (coded_list (coded_option coded_ℕ)) (coded_option (coded_option coded_ℕ))))
    (λ s. (s.grid, (s.series_of_column, s.next)))
    (λ p. record { grid = p.0; series_of_column = p.1.0; next = p.1.1 }) (λ _. refl)
