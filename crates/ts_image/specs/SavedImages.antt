-- Properties of a written image beyond the picture of a store; such an image has no contradiction. (Own rules.)
use Rattle.std.specs.Prelude.{ℤ, pos, ◌≤◌, ◌≤ℤ◌, List, map}
use Rattle.std.specs.Ordering.{int_cmp}
use Rattle.std.specs.List.{AllByRecursion}
use Rattle.ts_core.specs.lists.Beside.{OfEach}
use Rattle.ts_core.specs.facts.Facts.{text_cmp, series_cmp}
use Rattle.ts_core.specs.facts.Times.{IsTime}
use Rattle.ts_core.specs.settings.Settings.{IsPossibleRule, Settings}
use Rattle.ts_core.specs.store.History.{History}
use Rattle.ts_core.specs.store.Cells.{cell_cmp}
use Rattle.ts_core.specs.store.StoreStates.{ColumnPoints, StandsFor}
use Rattle.ts_core.specs.store.StoreData.{StoreData, store_settings, state_of}
use Rattle.ts_raw.specs.PlainColumns.{IsRising}
use Rattle.ts_store.specs.store.SizedStores.{IsSized}
use Rattle.ts_image.specs.declared.version.Version.TheVariants.{V2}
use Rattle.ts_image.specs.Images.{ImageRule, ImageColumn, ImageSeries, ImageCell, ImageData}
use Rattle.ts_image.specs.ImageTests.{IsPossible}
use Rattle.ts_store.specs.image.SavedContent.{AreRising}
use Rattle.ts_image.specs.Pictures.{IsPictureOf}

-- a column's points are in order of time
pub record IsOrderlyColumn (c : ImageColumn) : Type 0 where
  pub flag : c.waits ≤ 1
  pub rising : AreRising int_cmp (map (λ (p : ℤ × ℤ). p.0) c.points)

-- a series' columns are in order of field
pub record IsOrderlySeries (s : ImageSeries) : Type 0 where
  pub columns : AllByRecursion IsOrderlyColumn s.columns
  pub rising : AreRising text_cmp (map (λ (c : ImageColumn). c.field) s.columns)

-- a rule's cells are in order, and none is below its low index
pub record IsOrderlyRule (low : ℤ) (cs : List ImageCell) : Type 0 where
  pub kept : AllByRecursion (λ (c : ImageCell). low ≤ℤ c.cell.index) cs
  pub rising : AreRising cell_cmp (map (λ (c : ImageCell). c.cell) cs)

abbrev pub AreOrderlyCells : List ℤ → List (List ImageCell) → Type 0
AreOrderlyCells = OfEach IsOrderlyRule

-- everything is in the image's order, flags are 0 or 1, and no duration is negative
pub record IsOrderly (d : ImageData) : Type 0 where
  pub raw : pos 0 ≤ℤ d.settings.raw_duration
  pub durations : AllByRecursion (λ (r : ImageRule). pos 0 ≤ℤ r.duration) d.settings.rules
  pub series : AllByRecursion IsOrderlySeries d.series
  pub rising : AreRising series_cmp (map (λ (s : ImageSeries). s.series) d.series)
  pub cells : AreOrderlyCells d.marks.lows d.cells

-- Any store in memory: the rules are possible, the raw mark is a valid time, and counts fit. A line can state each
-- name, and the points of each column are in the order of time.
pub record IsWellFormed (k : StoreData) : Type 0 where
  pub rules : AllByRecursion IsPossibleRule (store_settings k).rules
  pub mark : IsTime k.raw_mark
  pub sized : IsSized k
  pub points : AllByRecursion (λ (c : ColumnPoints). IsRising c.points) k.columns

-- the image of a store that represents a history has no contradiction
abbrev pub SavedImagesArePossible : Type 0
SavedImagesArePossible = (opening : Settings) (h : History) (k : StoreData) (d : ImageData)
    → StandsFor opening h (state_of k) → IsWellFormed k → IsPictureOf k d → IsOrderly d → IsPossible V2 d
