-- The parts of an index: series, fields of measurements, and columns by the indices of these. (Own rule.)
use Rattle.std.specs.Prelude.{◌≡◌, ℕ, ◌<◌, ◌≤◌, List, [], length, map, slice_index_or}
use Rattle.ts_core.specs.lists.Members.{AllDistinct}
use Rattle.ts_core.specs.facts.Facts.{Series, Column}
use Rattle.ts_core.specs.lists.Numbered.{IsAt}
use Rattle.ts_raw.specs.FieldKeys.{FieldKey, field_key}
use Rattle.ts_raw.specs.ColumnTables.{ColumnNumbers}
use Rattle.ts_raw.specs.Indexed.{Indexed, no_series}

abbrev pub no_field : FieldKey
no_field = field_key [] []

-- the column with these indices of series and field
abbrev pub column_named : List Series → List FieldKey → ℕ × ℕ → Column
column_named series fields x =
    record { series = slice_index_or series x.0 no_series; field = (slice_index_or fields x.1 no_field).field }

-- a series and a field with these indices exist, and are of one measurement
pub record HasSeriesAndField (series : List Series) (fields : List FieldKey) (x : ℕ × ℕ) : Type 0 where
  pub series_there : x.0 < length series
  pub field_there : x.1 < length fields
  pub together : (slice_index_or series x.0 no_series).measurement ≡ (slice_index_or fields x.1 no_field).measurement

abbrev pub index_by_numbers : List Series → List FieldKey → ColumnNumbers → Indexed
index_by_numbers series fields t = record { series = series; columns = map (column_named series fields) t.columns }

-- the entries of each part are distinct, and each column has its names
pub record IsIndexOfParts (series : List Series) (fields : List FieldKey) (t : ColumnNumbers) : Type 0 where
  pub series_once : AllDistinct series
  pub fields_once : AllDistinct fields
  pub columns_once : AllDistinct t.columns
  pub spare : length fields ≤ t.fields
  pub named : (n : ℕ) (x : ℕ × ℕ) → IsAt t.columns n x → HasSeriesAndField series fields x
