-- Stores created from images. (Own rules.)
use Rattle.std.specs.Prelude.{◌≡◌, ◌==◌, ℕ, ℤ, Bool, List, ◌++◌, map, set}
use Rattle.std.specs.FinMap as finmap
use Rattle.std.specs.Ordering.{int_cmp}
use Rattle.std.specs.List.{AllByRecursion, flat_map, fold}
use Rattle.ts_core.specs.lists.Beside.{changed_beside}
use Rattle.ts_core.specs.facts.Facts.{Series, text_cmp}
use Rattle.ts_core.specs.aggregates.Aggregates.{empty_aggregate}
use Rattle.ts_core.specs.store.Cells.{Cell, cell_cmp}
use Rattle.ts_core.specs.store.StoreStates.{CellParts, facts_of}
use Rattle.ts_core.specs.store.StoreData.{CellMap, StoreData, OfEachRule}
use Rattle.ts_raw.specs.Columns.{AreTimed}
use Rattle.ts_store.specs.image.Building.{Built, cell_map_at, built_rules}
use Rattle.ts_store.specs.write.LinesPut.{PutsCells}
use Rattle.ts_image.specs.Images.{ImageColumn, ImageSeries, ImageCell, ImageData}
use Rattle.ts_image.specs.ImageTests.{IsKeyName, IsImageSeriesKey, settings_of_image}
use Rattle.ts_store.specs.image.SavedContent.{AreRising}
use Rattle.ts_image.specs.PartsMade.{HasPart}
use Rattle.ts_image.specs.Pictures.{image_points_in, columns_of_image, waiting_of_image, cell_part_of, IsMadeOf}

-- ---- parts that can be added to a store

pub record IsAddedColumn (c : ImageColumn) : Type 0 where
  pub field : IsKeyName c.field
  pub timed : AreTimed c.points
  pub rising : AreRising int_cmp (map (λ (p : ℤ × ℤ). p.0) c.points)

pub record AreAddedColumns (cs : List ImageColumn) : Type 0 where
  pub each : AllByRecursion IsAddedColumn cs
  pub rising : AreRising text_cmp (map (λ (c : ImageColumn). c.field) cs)

pub record IsAddedSeries (s : ImageSeries) : Type 0 where
  pub key : IsImageSeriesKey s.series
  pub columns : AreAddedColumns s.columns

pub record AreAddedCells (cs : List ImageCell) : Type 0 where
  pub each : AllByRecursion HasPart cs
  pub rising : AreRising cell_cmp (map (λ (c : ImageCell). c.cell) cs)

-- ---- a store under construction, with more of an image

abbrev pub is_column_waiting : ImageColumn → Bool
is_column_waiting c = c.waits == 1

-- for each column of series, true if it waits
abbrev pub waits_in : List ImageSeries → List Bool
waits_in = flat_map (λ (s : ImageSeries). map is_column_waiting s.columns)

abbrev pub with_image_columns : Series → List ImageColumn → Built → Built
with_image_columns s cs b =
    record b { columns = b.columns ++ map (image_points_in s) cs; waits = b.waits ++ map is_column_waiting cs }

abbrev pub key_in : ImageSeries → Series
key_in s = s.series

abbrev pub with_all_series : List ImageSeries → Built → Built
with_all_series ss b = record b {
  series = b.series ++ map key_in ss;
  columns = b.columns ++ columns_of_image ss;
  waits = b.waits ++ waits_in ss;
}

-- the parts of a stored cell
abbrev pub parts_of : ImageCell → CellParts
parts_of c = record { frozen = cell_part_of c; live = empty_aggregate }

abbrev pub cell_of_image : ImageCell → Cell
cell_of_image c = c.cell

-- a map with the cells of an image
abbrev pub with_image_cells : List ImageCell → CellMap → CellMap
with_image_cells cs m = fold (λ (n : CellMap) (c : ImageCell). finmap.insert n c.cell (parts_of c)) m cs

abbrev pub cells_in : List ImageCell → CellMap
cells_in cs = with_image_cells cs finmap.empty

abbrev pub with_cells_at : ℕ → List ImageCell → Built → Built
with_cells_at rule cs b = record b { cells = set b.cells rule (with_image_cells cs (cell_map_at b.cells rule)) }

-- each map with the cells of an image
abbrev pub with_each : List (List ImageCell) → List CellMap → List CellMap
with_each = changed_beside with_image_cells

abbrev pub with_all_cells : List (List ImageCell) → Built → Built
with_all_cells cs b = record b { cells = with_each cs b.cells }

-- all parts of an image
abbrev pub built_in : ImageData → Built
built_in d = record {
  settings = settings_of_image d.settings;
  marks = d.marks;
  running = d.runs == 1;
  accepted = d.accepted;
  series = map key_in d.series;
  columns = columns_of_image d.series;
  waits = waits_in d.series;
  cells = map cells_in d.cells;
}

-- ---- the store

-- The store is created from the data of an image, and has its series and columns in its order. Besides the image's
-- cells it has those of raw facts from the low index on, and no others.
pub record IsStoreOf (d : ImageData) (k : StoreData) : Type 0 where
  pub made : IsMadeOf d k
  pub series : k.series ≡ map key_in d.series
  pub columns : k.columns ≡ columns_of_image d.series
  pub waiting : k.waiting ≡ waiting_of_image d.series
  pub cells : OfEachRule (PutsCells (facts_of (columns_of_image d.series))) (built_rules (built_in d)) k.rules
