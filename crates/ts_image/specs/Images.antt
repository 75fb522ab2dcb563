-- The data of an image, and its bytes. Numbers are big-endian, signed ones in two's complement; a text is its length in
-- eight bytes and its UTF-8 bytes. (Own rules.)
use Rattle.std.specs.Prelude.{ℕ, ℤ, List, [], ◌∷◌, ◌++◌}
use Rattle.std.specs.Int.{w8, w32, w64, w128}
use Rattle.ts_core.specs.declared.aggregates.aggregate.Extremes.{Extremes}
use Rattle.ts_core.specs.facts.Facts.{Text, Series}
use Rattle.ts_core.specs.store.Marks.{Marks}
use Rattle.ts_core.specs.store.Cells.{Cell}
use Rattle.ts_image.specs.declared.version.Version.{Version}
use Rattle.ts_image.specs.declared.version.Version.TheVariants.{V1, V2}
use Rattle.ts_image.specs.Formats.{Cursor, Format, spelling, number, signed_number, text, nothing, and, also, iso, along, list_of}

pub record ImageRule : Type 0 where
  pub name : Text
  pub measurement : Text
  pub interval : ℤ
  pub offset : ℤ
  pub duration : ℤ
  pub kept_tags : List Text

pub record ImageSettings : Type 0 where
  pub raw_duration : ℤ
  pub rules : List ImageRule

-- a column: its field, 1 if it waits for the open run and 0 otherwise, and its points
pub record ImageColumn : Type 0 where
  pub field : Text
  pub waits : ℕ
  pub points : List (ℤ × ℤ)

pub record ImageSeries : Type 0 where
  pub series : Series
  pub columns : List ImageColumn

-- a cell with its frozen part
pub record ImageCell : Type 0 where
  pub cell : Cell
  pub count : ℕ
  pub sum : ℤ
  pub extremes : Extremes

pub record ImageData : Type 0 where
  pub settings : ImageSettings
  pub marks : Marks
  -- 1 if a run is open, else 0
  pub runs : ℕ
  pub accepted : ℕ
  pub series : List ImageSeries
  -- per rule
  pub cells : List (List ImageCell)

-- ---- the form

-- a byte that images have from version 2 on
abbrev pub flag : Version → Format ℕ
flag V1 = nothing 0
flag V2 = number w8

abbrev pub image_rule : Format ImageRule
image_rule =
    iso (also text (also text (also (signed_number w64) (also (signed_number w64)
    (also (signed_number w64) (list_of w8 text))))))
    (λ a. record {
      name = a.0;
      measurement = a.1.0;
      interval = a.1.1.0;
      offset = a.1.1.1.0;
      duration = a.1.1.1.1.0;
      kept_tags = a.1.1.1.1.1;
    })
    (λ r. (r.name, (r.measurement, (r.interval, (r.offset, (r.duration, r.kept_tags))))))

abbrev pub image_settings : Format ImageSettings
image_settings = iso (also (signed_number w64) (list_of w8 image_rule))
    (λ a. record { raw_duration = a.0; rules = a.1 }) (λ s. (s.raw_duration, s.rules))

-- the raw mark, and a low index per rule
abbrev pub image_marks : List ImageRule → Format Marks
image_marks rules = iso (also (signed_number w64) (along (λ (r : ImageRule). signed_number w64) rules))
    (λ a. record { raw = a.0; lows = a.1 }) (λ m. (m.raw, m.lows))

abbrev pub image_series_key : Format Series
image_series_key = iso (also text (list_of w8 (also text text)))
    (λ a. record { measurement = a.0; tags = a.1 }) (λ s. (s.measurement, s.tags))

abbrev pub image_point : Format (ℤ × ℤ)
image_point = also (signed_number w64) (signed_number w64)

abbrev pub image_column : Version → Format ImageColumn
image_column v = iso (also text (also (flag v) (list_of w64 image_point)))
    (λ a. record { field = a.0; waits = a.1.0; points = a.1.1 }) (λ c. (c.field, (c.waits, c.points)))

abbrev pub image_series : Version → Format ImageSeries
image_series v = iso (also image_series_key (list_of w64 (image_column v)))
    (λ a. record { series = a.0; columns = a.1 }) (λ s. (s.series, s.columns))

-- the bucket's index, the field, and a value for each kept tag
abbrev pub image_cell_key : ImageRule → Format Cell
image_cell_key r = iso (also (signed_number w64) (also text (along (λ (tag : Text). text) r.kept_tags)))
    (λ a. record { index = a.0; field = a.1.0; group = a.1.1 }) (λ k. (k.index, (k.field, k.group)))

-- min, max, first time and value, last time and value
abbrev pub image_extremes : Format Extremes
image_extremes =
    iso (also (signed_number w64) (also (signed_number w64) (also image_point image_point)))
    (λ a. record { min = a.0; max = a.1.0; first = a.1.1.0; last = a.1.1.1 })
    (λ e. (e.min, (e.max, (e.first, e.last))))

abbrev pub image_cell : ImageRule → Format ImageCell
image_cell r =
    iso (also (image_cell_key r) (also (number w64) (also (signed_number w128) image_extremes)))
    (λ a. record { cell = a.0; count = a.1.0; sum = a.1.1.0; extremes = a.1.1.1 })
    (λ c. (c.cell, (c.count, (c.sum, c.extremes))))

-- settings; marks; 1 if a run is open, else 0; accepted facts; series with their columns; cells per rule
abbrev pub image : Version → Format ImageData
image v =
    iso
    (and image_settings (λ s. also (image_marks s.rules) (also (flag v) (also (number w64)
    (also (list_of w32 (image_series v)) (along (λ (r : ImageRule). list_of w64 (image_cell r)) s.rules))))))
    (λ a. record {
      settings = a.0;
      marks = a.1.0;
      runs = a.1.1.0;
      accepted = a.1.1.1.0;
      series = a.1.1.1.1.0;
      cells = a.1.1.1.1.1;
    })
    (λ d. (d.settings, (d.marks, (d.runs, (d.accepted, (d.series, d.cells))))))

-- ---- the bytes

-- TSIM
abbrev pub image_mark : List ℕ
image_mark = 84 ∷ 83 ∷ 73 ∷ 77 ∷ []

abbrev pub version_byte : Version → ℕ
version_byte V1 = 1
version_byte V2 = 2

abbrev pub image_text : Version → ImageData → List ℕ
image_text v d = image_mark ++ (version_byte v ∷ spelling (image v) d)

-- the position after the version's byte
abbrev pub body : List ℕ → Cursor
body rest = record { at = 5; rest = rest }
