-- Facts: the value that a point has for one field.
-- (InfluxData 1.8, key concepts: measurement, tag set, field key, timestamp, field value. Own rule: a series is a
-- measurement with a tag set. There the field key is part of a series too; here a series with a field key is a column.)
use Rattle.std.specs.Prelude.{ℕ, ℤ, Bool, ◌&&◌, List, int_le, int_lt}
use Rattle.std.specs.declared.cmp.Ordering.{Ordering}
use Rattle.std.specs.Ordering.{ordering_then, eq_by_cmp, nat_cmp, int_cmp}
use Rattle.std.specs.Str.{bytes_eq}
use Rattle.std.specs.Cmp.Lexicographic.{slice_cmp}

-- a text is its bytes, and is compared byte by byte
abbrev pub Text : Type 0
Text = List ℕ

abbrev pub text_cmp : Text → Text → Ordering
text_cmp = slice_cmp nat_cmp

abbrev pub same_text : Text → Text → Bool
same_text = bytes_eq

-- a measurement with a tag set. (The tags of a line are in byte order of their keys, each key once: ts_line's
-- `series_of` sorts them.)
pub record Series : Type 0 where
  pub measurement : Text
  pub tags : List (Text × Text)

-- a series with a field, which key concepts calls a series
pub record Column : Type 0 where
  pub series : Series
  pub field : Text

-- a value of a field at a time
pub record Fact : Type 0 where
  pub column : Column
  pub time : ℤ
  pub value : ℤ

-- the identity of a fact: all but its value
pub record Id : Type 0 where
  pub column : Column
  pub time : ℤ

abbrev pub id_of : Fact → Id
id_of f = record { column = f.column; time = f.time }

-- ---- orders of names and ids

abbrev pub tag_cmp : Text × Text → Text × Text → Ordering
tag_cmp a b = ordering_then (text_cmp a.0 b.0) (text_cmp a.1 b.1)

abbrev pub series_cmp : Series → Series → Ordering
series_cmp a b = ordering_then (text_cmp a.measurement b.measurement) (slice_cmp tag_cmp a.tags b.tags)

abbrev pub column_cmp : Column → Column → Ordering
column_cmp a b = ordering_then (series_cmp a.series b.series) (text_cmp a.field b.field)

abbrev pub id_cmp : Id → Id → Ordering
id_cmp a b = ordering_then (column_cmp a.column b.column) (int_cmp a.time b.time)

abbrev pub same_id : Id → Id → Bool
same_id = eq_by_cmp id_cmp

-- ---- which facts match

-- the column is of this measurement and field, with any tags
abbrev pub is_of : Text → Text → Column → Bool
is_of measurement field c = same_text c.series.measurement measurement && same_text c.field field

-- from a, inclusive, to b, exclusive
abbrev pub is_within : ℤ → ℤ → ℤ → Bool
is_within a b t = int_le a t && int_lt t b

-- a fact of this measurement and field, from a, inclusive, to b, exclusive
abbrev pub is_asked : Text → Text → ℤ → ℤ → Fact → Bool
is_asked measurement field a b f = is_of measurement field f.column && is_within a b f.time
