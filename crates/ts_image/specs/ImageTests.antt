-- Tests of an image of the form for contradictions. They don't find every contradiction.
-- (Own rules. InfluxData 1.8, line protocol: the parts of a point.)
use Rattle.std.specs.Prelude.{◌≡◌, ◌≢◌, ◌⊎◌, ℕ, ℤ, pos, ◌+◌, ◌+ℤ◌, ◌≤◌, ◌^◌, ◌≤ℤ◌, ◌<ℤ◌, List, [], ◌∷◌, length, map, filter, None, unsigned_abs}
use Rattle.std.specs.Ordering.{int_cmp}
use Rattle.std.specs.List.{AllByRecursion, sum_by, AllZip, zip}
use Rattle.ts_core.specs.lists.Beside.{OfEach}
use Rattle.ts_core.specs.facts.Facts.{Text, Series, same_text, text_cmp, series_cmp}
use Rattle.ts_core.specs.facts.Times.{IsTime, least_time}
use Rattle.ts_core.specs.settings.Settings.{Rule, Settings, IsRule}
use Rattle.ts_core.specs.settings.SettingsFaults.{settings_fault}
use Rattle.ts_core.specs.store.Marks.{index_of}
use Rattle.ts_core.specs.store.Cells.{cell_cmp}
use Rattle.ts_core.specs.aggregates.Aggregates.{IsSpread}
use Rattle.ts_image.specs.declared.version.Version.{Version}
use Rattle.ts_image.specs.declared.version.Version.TheVariants.{V1, V2}
use Rattle.ts_image.specs.Images.{ImageRule, ImageSettings, ImageColumn, ImageSeries, ImageCell, ImageData}
use Rattle.ts_store.specs.image.SavedContent.{AreRising}

-- `time`, which is no name of a tag or field
abbrev pub time_word : Text
time_word = 116 ∷ 105 ∷ 109 ∷ 101 ∷ []

abbrev pub IsKeyName : Text → Type 0
IsKeyName t = (t ≢ []) × (t ≢ time_word)

-- ---- settings and marks

abbrev pub rule_in : ImageRule → Rule
rule_in r = record {
  name = r.name;
  measurement = r.measurement;
  interval = r.interval;
  offset = r.offset;
  kept_tags = r.kept_tags;
  duration = unsigned_abs r.duration;
}

abbrev pub settings_of_image : ImageSettings → Settings
settings_of_image s = record { raw_duration = unsigned_abs s.raw_duration; rules = map rule_in s.rules }

-- these are the parts of a rule
abbrev pub IsImageRule : ImageRule → Type 0
IsImageRule r = IsRule r.measurement r.kept_tags r.duration

pub record AreImageSettings (s : ImageSettings) : Type 0 where
  pub raw : pos 0 ≤ℤ s.raw_duration
  pub rules : AllByRecursion IsImageRule s.rules
  pub faultless : settings_fault (settings_of_image s) ≡ None

-- The greatest distance of a low index above the index of the raw mark. The first bucket of an added rule may be the
-- next one.
abbrev pub ahead_of_mark : Version → ℤ
ahead_of_mark V1 = pos 0
ahead_of_mark V2 = pos 1

pub record IsLow (v : Version) (mark : ℤ) (r : ImageRule) (low : ℤ) : Type 0 where
  pub least : index_of (rule_in r) least_time ≤ℤ low
  pub most : low ≤ℤ (index_of (rule_in r) mark +ℤ ahead_of_mark v)

-- each rule has one
abbrev pub AreLows : Version → ℤ → List ImageRule → List ℤ → Type 0
AreLows v mark = AllZip (IsLow v mark)

-- ---- series, columns and points

pub record IsImageSeriesKey (s : Series) : Type 0 where
  pub measured : s.measurement ≢ []
  pub few : length s.tags ≤ 64
  pub tags : AllByRecursion (λ (t : Text × Text). IsKeyName t.0 × (t.1 ≢ [])) s.tags
  pub rising : AreRising text_cmp (map (λ (t : Text × Text). t.0) s.tags)

-- a column that doesn't wait has no point below the raw mark
abbrev pub IsImagePoint : ℤ → ℕ → ℤ × ℤ → Type 0
IsImagePoint mark waits p = IsTime p.0 × ((waits ≡ 1) ⊎ (mark ≤ℤ p.0))

pub record IsImageColumn (mark : ℤ) (runs : ℕ) (c : ImageColumn) : Type 0 where
  pub field : IsKeyName c.field
  pub waits : c.waits ≤ runs
  pub points : AllByRecursion (IsImagePoint mark c.waits) c.points
  pub rising : AreRising int_cmp (map (λ (p : ℤ × ℤ). p.0) c.points)

pub record IsImageSeries (mark : ℤ) (runs : ℕ) (s : ImageSeries) : Type 0 where
  pub key : IsImageSeriesKey s.series
  pub columns : AllByRecursion (IsImageColumn mark runs) s.columns
  pub rising : AreRising text_cmp (map (λ (c : ImageColumn). c.field) s.columns)

-- ---- cells

-- the time of an extreme of a cell: in the cell's bucket, and below the raw mark
pub record IsFrozenTime (mark : ℤ) (r : ImageRule) (index : ℤ) (t : ℤ) : Type 0 where
  pub valid : IsTime t
  pub bucket : index_of (rule_in r) t ≡ index
  pub frozen : t <ℤ mark

abbrev pub IsBetween : ℤ → ℤ → ℤ → Type 0
IsBetween low high x = (low ≤ℤ x) × (x ≤ℤ high)

pub record IsImageCell (mark : ℤ) (r : ImageRule) (low : ℤ) (c : ImageCell) : Type 0 where
  pub kept : low ≤ℤ c.cell.index
  pub field : IsKeyName c.cell.field
  pub group : length c.cell.group ≡ length r.kept_tags
  pub spread : IsSpread c.count c.sum c.extremes
  pub values : c.extremes.min ≤ℤ c.extremes.max
  pub first : IsFrozenTime mark r c.cell.index c.extremes.first.0
  pub last : IsFrozenTime mark r c.cell.index c.extremes.last.0
  pub order : c.extremes.first.0 ≤ℤ c.extremes.last.0
  pub first_value : IsBetween c.extremes.min c.extremes.max c.extremes.first.1
  pub last_value : IsBetween c.extremes.min c.extremes.max c.extremes.last.1

pub record AreImageCells (mark : ℤ) (r : ImageRule) (low : ℤ) (cells : List ImageCell) : Type 0 where
  pub each : AllByRecursion (IsImageCell mark r low) cells
  pub rising : AreRising cell_cmp (map (λ (c : ImageCell). c.cell) cells)

-- ---- counts

abbrev pub points_of_series : ImageSeries → ℕ
points_of_series s = sum_by (λ (c : ImageColumn). length c.points) s.columns

-- the number of raw points of all series, and of those of a measurement
abbrev pub points_in_all : List ImageSeries → ℕ
points_in_all ss = sum_by points_of_series ss

abbrev pub points_of_measurement : Text → List ImageSeries → ℕ
points_of_measurement m ss = points_in_all (filter (λ (s : ImageSeries). same_text s.series.measurement m) ss)

-- the facts in a rule's frozen parts
abbrev pub count_frozen : List ImageCell → ℕ
count_frozen cs = sum_by (λ (c : ImageCell). c.count) cs

-- the counts of a rule's frozen parts and the raw points of its measurement are at most this number
pub record HasCountedFacts (accepted : ℕ)
    (ss : List ImageSeries) (r : ImageRule) (cells : List ImageCell) : Type 0 where
  pub enough : count_frozen cells + points_of_measurement r.measurement ss ≤ accepted

-- the counts of each rule are at most the accepted facts
abbrev pub AreCounted : ImageData → List ImageRule → List (List ImageCell) → Type 0
AreCounted d = OfEach (HasCountedFacts d.accepted d.series)

-- the cells of each rule
abbrev pub CellsAre : ℤ → List ImageRule → List ℤ → List (List ImageCell) → Type 0
CellsAre mark rs lows = OfEach (λ (x : ImageRule × ℤ). AreImageCells mark x.0 x.1) (zip rs lows)

-- ---- the whole

pub record IsPossible (v : Version) (d : ImageData) : Type 0 where
  pub settings : AreImageSettings d.settings
  pub mark : IsTime d.marks.raw
  pub lows : AreLows v d.marks.raw d.settings.rules d.marks.lows
  pub runs : d.runs ≤ 1
  pub few : length d.series ≤ 1000000
  pub series : AllByRecursion (IsImageSeries d.marks.raw d.runs) d.series
  pub rising : AreRising series_cmp (map (λ (s : ImageSeries). s.series) d.series)
  -- a list of cells for each rule
  pub each : length d.cells ≡ length d.settings.rules
  pub cells : CellsAre d.marks.raw d.settings.rules d.marks.lows d.cells
  pub accepted : d.accepted ≤ 2 ^ 62
  pub points : points_in_all d.series ≤ d.accepted
  pub counted : AreCounted d d.settings.rules d.cells
