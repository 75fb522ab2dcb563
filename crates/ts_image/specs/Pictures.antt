-- The picture of a store in its image, in the image's order: all data except live parts, empty cells, and cells below a
-- low index. (Own rules.)
use Rattle.std.specs.Prelude.{◌≡◌, ◌↔◌, ℤ, ◌≤ℤ◌, ◌<◌, ◌==◌, List, map, filter, Some}
use Rattle.std.specs.FinMap as finmap
use Rattle.std.specs.List.{AllZip, flat_map}
use Rattle.ts_core.specs.lists.Members.{Among, AllDistinct}
use Rattle.ts_core.specs.facts.Facts.{Series, Column}
use Rattle.ts_core.specs.aggregates.Aggregates.{Aggregate, empty_aggregate}
use Rattle.ts_core.specs.store.Cells.{Cell}
use Rattle.ts_core.specs.lists.Changes.{or_else}
use Rattle.ts_core.specs.store.StoreStates.{ColumnPoints, column_of, facts_of}
use Rattle.ts_core.specs.store.StoreData.{CellMap, RuleData, StoreData, store_settings, store_marks, no_parts, AreLive}
use Rattle.ts_core.specs.io.ReadingAhead.{bit}
use Rattle.ts_store.specs.image.Building.{HaveCells}
use Rattle.ts_image.specs.Images.{ImageColumn, ImageSeries, ImageCell, ImageData}
use Rattle.ts_image.specs.ImageTests.{settings_of_image}

abbrev pub column_of_image : Series → ImageColumn → Column
column_of_image s c = record { series = s; field = c.field }

abbrev pub image_points_in : Series → ImageColumn → ColumnPoints
image_points_in s c = record { column = column_of_image s c; points = c.points }

-- the columns of series with their points, and the waiting ones
abbrev pub columns_of_image : List ImageSeries → List ColumnPoints
columns_of_image = flat_map (λ (s : ImageSeries). map (image_points_in s.series) s.columns)

abbrev pub waiting_of_image : List ImageSeries → List Column
waiting_of_image = flat_map
    (λ (s : ImageSeries). map (column_of_image s.series) (filter (λ (c : ImageColumn). c.waits == 1) s.columns))

abbrev pub cell_part_of : ImageCell → Aggregate
cell_part_of c = record { count = c.count; sum = c.sum; extremes = Some c.extremes }

-- the frozen part of a cell; a missing cell has an empty one
abbrev pub part_at : CellMap → Cell → Aggregate
part_at m k = (or_else no_parts (finmap.get m k)).frozen

-- the cells of a rule that aren't empty, from its low index on
pub record PicturesCells (low : ℤ) (m : CellMap) (cells : List ImageCell) : Type 0 where
  pub each : (c : ImageCell) → Among c cells → part_at m c.cell ≡ cell_part_of c
  pub all : (k : Cell) → low ≤ℤ k.index → 0 < (part_at m k).count → (c : ImageCell) × Among c cells × (c.cell ≡ k)
  pub sound : (k : Cell) → low ≤ℤ k.index → (part_at m k).count ≡ 0 → part_at m k ≡ empty_aggregate

-- the same for each rule
abbrev pub PictureCells : List RuleData → List (List ImageCell) → Type 0
PictureCells = AllZip (λ (r : RuleData). PicturesCells r.low r.cells)

-- the data is the picture of a store
pub record IsPictureOf (k : StoreData) (d : ImageData) : Type 0 where
  pub settings : settings_of_image d.settings ≡ store_settings k
  pub marks : d.marks ≡ store_marks k
  pub runs : d.runs ≡ bit k.running
  pub accepted : d.accepted ≡ k.accepted
  pub series : (s : Series) → Among s (map (λ (x : ImageSeries). x.series) d.series) ↔ Among s k.series
  pub columns : (c : ColumnPoints) → Among c (columns_of_image d.series) ↔ Among c k.columns
  pub waiting : (c : Column) → Among c (waiting_of_image d.series) ↔ Among c k.waiting
  pub cells : PictureCells k.rules d.cells

-- The store is created from the data: the data is its picture, and each column occurs once. Raw facts have their cells,
-- and live parts are folded from the raw facts.
pub record IsMadeOf (d : ImageData) (k : StoreData) : Type 0 where
  pub picture : IsPictureOf k d
  pub waiting_once : AllDistinct k.waiting
  pub columns_once : AllDistinct (map column_of k.columns)
  pub has_cells : HaveCells (facts_of k.columns) k.rules
  pub live : AreLive k.columns k.rules
