-- The values of series and columns that the code reads. (Own rules.)
use Rattle.std.specs.Prelude.{List, map, string_bytes, Vec, String}
use Rattle.ts_core.specs.facts.Facts.{Text, Series}
use Rattle.ts_image.specs.declared.read.series.ColumnParts.{ColumnParts}
use Rattle.ts_image.specs.declared.read.series.KeyParts.{KeyParts}
use Rattle.ts_image.specs.declared.read.series.SeriesParts.{SeriesParts}
use Rattle.ts_image.specs.Images.{ImageColumn, ImageSeries}

abbrev pub column_of_parts : {A : Type 0} → ColumnParts A → ImageColumn
column_of_parts c = record { field = string_bytes c.field; waits = c.waits; points = c.points }

abbrev pub column_parts_of : {A : Type 0} → Vec (ColumnParts A) A → List ImageColumn
column_parts_of v = map column_of_parts v.items

abbrev pub tag_of : {A : Type 0} → String A × String A → Text × Text
tag_of t = (string_bytes t.0, string_bytes t.1)

abbrev pub tags_of_parts : {A : Type 0} → Vec (String A × String A) A → List (Text × Text)
tags_of_parts v = map tag_of v.items

abbrev pub key_of : {A : Type 0} → KeyParts A → Series
key_of k = record { measurement = string_bytes k.measurement; tags = tags_of_parts k.tags }

abbrev pub series_of_parts : {A : Type 0} → SeriesParts A → ImageSeries
series_of_parts s = record { series = key_of s.key; columns = column_parts_of s.columns }

abbrev pub all_series_of : {A : Type 0} → Vec (SeriesParts A) A → List ImageSeries
all_series_of v = map series_of_parts v.items
