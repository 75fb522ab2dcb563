-- The raw points of a store as lines of line protocol. (InfluxData 1.8, line protocol reference, syntax, special
-- characters. Own rule: a line per point, in the order of an image.)
use Rattle.std.specs.Prelude.{◌≡◌, ◌≤◌, ◌++◌, ℕ, ℤ, Bool, true, not, length, List, [], ◌∷◌, map, flat_map, codes, slice_index_or, if◌then◌else◌, Result, Err, OnOk}
use Rattle.std.specs.Fmt.{signed_decimal}
use Rattle.std.specs.Io.KnownBytes.{Appends}
use Rattle.ts_core.specs.facts.Facts.{Text, Series}
use Rattle.ts_core.specs.io.Devices.{Output, AppendsFront}
use Rattle.ts_core.specs.store.StoreData.{StoreData}
use Rattle.ts_store.specs.image.SavedContent.{SavedColumn, SavedSeries}
use Rattle.ts_store.specs.read.ViewResults.{no_points}
use Rattle.ts_image.specs.Saving.{IsOrder}
use Rattle.ts_line.specs.PartTexts.{unescaped}
use Rattle.ts_line.specs.Scan.{is_backslash, is_stop}
use Rattle.ts_line.specs.Spelling.{tags_text, IsWrittenPart}
use Rattle.ts_line.specs.declared.scan.Stops.{Stops}
use Rattle.ts_line.specs.declared.scan.Stops.TheVariants.{Comma, Equals}
use Rattle.tsdb.specs.declared.line_text.NamePart.{NamePart}
use Rattle.tsdb.specs.declared.line_text.NamePart.TheVariants.{Measurement, Key}
use Rattle.tsdb.specs.declared.export.ExportFault.{ExportFault}
use Rattle.tsdb.specs.declared.export.ExportFault.TheVariants as faults

-- ---- names

-- the delimiters of a part
abbrev pub stops_of : NamePart → Stops
stops_of Measurement = Comma
stops_of Key = Equals

abbrev pub escaped_byte : Stops → ℕ → Text
escaped_byte stops byte = if is_stop stops byte then 92 ∷ byte ∷ [] else byte ∷ []

-- the name with a backslash before each delimiter
abbrev pub escaped : Stops → Text → Text
escaped stops name = flat_map (escaped_byte stops) name

abbrev pub escaped_tag : Text × Text → Text × Text
escaped_tag tag = (escaped Equals tag.0, escaped Equals tag.1)

abbrev pub key_text : Series → Text
key_text series = escaped Comma series.measurement ++ tags_text (map escaped_tag series.tags)

-- a line up to the value
abbrev pub line_start : Text → Text → Text
line_start key field = key ++ (codes " " ++ (escaped Equals field ++ codes "="))

-- a name that doesn't end in a backslash, after the byte `before`
abbrev pub ends_bare : ℕ → Text → Bool
ends_bare before [] = not (is_backslash before)
ends_bare before (byte ∷ bytes) = ends_bare byte bytes

-- Each name that isn't empty and doesn't end in a backslash is a part of a line as escaped, and is read as the name.
abbrev pub NamesAreRead : Type 0
NamesAreRead = (part : NamePart) (name : Text) → 1 ≤ length name → ends_bare 0 name ≡ true
    → IsWrittenPart (stops_of part) (escaped (stops_of part) name)
    × (unescaped (stops_of part) (escaped (stops_of part) name) ≡ name)

-- ---- lines

-- the line of a point, which is a time and a value
abbrev pub point_line : Text → ℤ × ℤ → Text
point_line head point = head ++ (signed_decimal point.1 ++ (codes "i " ++ (signed_decimal point.0 ++ codes "\n")))

-- a column to be written: its lines up to the value, and its index in the store
pub record ExportColumn : Type 0 where
  pub head : Text
  pub number : ℕ

abbrev pub export_column : Series → SavedColumn → ExportColumn
export_column series column = record { head = line_start (key_text series) column.field; number = column.number }

abbrev pub series_columns : SavedSeries → List ExportColumn
series_columns saved = map (export_column saved.series) saved.columns

abbrev pub column_lines : StoreData → ExportColumn → Text
column_lines k column = flat_map (point_line column.head) (slice_index_or k.columns column.number no_points).points

-- the lines of all raw points, with the series and columns in this order
abbrev pub lines_text : StoreData → List SavedSeries → Text
lines_text k order = flat_map (column_lines k) (flat_map series_columns order)

-- ---- the export

-- Writes the lines of all raw points in the order of an image. After a device error, a prefix of them was written;
-- after any other, nothing.
pub record IsExported {T : Type 0}
    (k : StoreData) (old : Output) (result : Result T ExportFault) (new : Output) : Type 0 where
  pub ok : OnOk result ((order : List SavedSeries)
      × IsOrder k order × Appends old.contents new.contents (lines_text k order))
  pub device : result ≡ Err faults.Device
      → (order : List SavedSeries) × IsOrder k order × AppendsFront old.contents new.contents (lines_text k order)
  pub name : result ≡ Err faults.Name → new ≡ old
  pub memory : result ≡ Err faults.OutOfMemory → new ≡ old
