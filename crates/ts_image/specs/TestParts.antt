-- Keys of the parts of images, and tests of parts. (Own rules.)
use Rattle.std.specs.Prelude.{◌≡◌, ◌≢◌, ◌+◌, ◌<◌, ◌≤◌, ◌≤ℤ◌, ◌^◌, pos, ℕ, List, map, length, Option, Some, None, if◌then◌else◌, [], string_bytes, String}
use Rattle.ts_core.specs.lists.Beside.{OfEach}
use Rattle.ts_core.specs.facts.Facts.{Text, Series, same_text, series_cmp}
use Rattle.ts_core.specs.store.Cells.{Cell}
use Rattle.ts_core.specs.declared.aggregates.aggregate.Extremes.{Extremes}
use Rattle.ts_image.specs.declared.read.series.ColumnParts.{ColumnParts}
use Rattle.ts_image.specs.declared.read.series.SeriesParts.{SeriesParts}
use Rattle.ts_image.specs.declared.read.cells.CellParts.{CellParts}
use Rattle.ts_image.specs.SeriesParts.{key_of}
use Rattle.ts_image.specs.CellParts.{cell_key_of}
use Rattle.ts_image.specs.ImageTests.{IsKeyName, IsBetween, points_of_series, points_in_all, IsImageSeries, AreLows, CellsAre, HasCountedFacts}
use Rattle.ts_store.specs.image.SavedContent.{AreRising}
use Rattle.ts_image.specs.declared.read.rules.RuleParts.{RuleParts}
use Rattle.ts_image.specs.Images.{ImageRule, ImageSeries, ImageCell, ImageData}
use Rattle.ts_image.specs.declared.version.Version.{Version}
use Rattle.std.specs.List.{AllByRecursion}
use Rattle.ts_core.specs.facts.Times.{IsTime}

abbrev pub IsTag : Text × Text → Type 0
IsTag t = IsKeyName t.0 × (t.1 ≢ [])

abbrev pub key_of_tag : {A : Type 0} → String A × String A → Text
key_of_tag t = string_bytes t.0

abbrev pub field_of : {A : Type 0} → ColumnParts A → Text
field_of c = string_bytes c.field

abbrev pub series_key_of : {A : Type 0} → SeriesParts A → Series
series_key_of s = key_of s.key

abbrev pub key_of_cell : {A : Type 0} → CellParts A → Cell
key_of_cell c = cell_key_of c.key

-- extremes that some bucket may have
pub record AreExtremesPossible (e : Extremes) : Type 0 where
  pub values : e.min ≤ℤ e.max
  pub order : e.first.0 ≤ℤ e.last.0
  pub first_value : IsBetween e.min e.max e.first.1
  pub last_value : IsBetween e.min e.max e.last.1

-- the number of a series' raw points if it is of the measurement, else 0
abbrev pub points_if : Text → ImageSeries → ℕ
points_if m s = if same_text s.series.measurement m then points_of_series s else 0

-- subtracts a number if it isn't greater
abbrev pub IsSubtracted : ℕ → ℕ → Option ℕ → Type 0
IsSubtracted left taken (Some rest) = rest + taken ≡ left
IsSubtracted left taken None = left < taken

-- the interval is at least a nanosecond
abbrev pub HasLongInterval : {A : Type 0} → RuleParts A → Type 0
HasLongInterval r = pos 1 ≤ℤ r.interval

-- the counts of each rule are at most this number
abbrev pub AreCountedAll : ℕ → List ImageSeries → List ImageRule → List (List ImageCell) → Type 0
AreCountedAll accepted ss = OfEach (HasCountedFacts accepted ss)

-- ---- the tests of a whole image, in three groups

pub record IsSmall (d : ImageData) : Type 0 where
  pub mark : IsTime d.marks.raw
  pub runs : d.runs ≤ 1
  pub few : length d.series ≤ 1000000
  pub accepted : d.accepted ≤ 2 ^ 62

pub record AreSeriesPossible (d : ImageData) : Type 0 where
  pub series : AllByRecursion (IsImageSeries d.marks.raw d.runs) d.series
  pub rising : AreRising series_cmp (map (λ (s : ImageSeries). s.series) d.series)
  pub points : points_in_all d.series ≤ d.accepted

pub record AreRulesPossible (v : Version) (d : ImageData) : Type 0 where
  pub lows : AreLows v d.marks.raw d.settings.rules d.marks.lows
  pub each : length d.cells ≡ length d.settings.rules
  pub cells : CellsAre d.marks.raw d.settings.rules d.marks.lows d.cells
  pub counted : AreCountedAll d.accepted d.series d.settings.rules d.cells
