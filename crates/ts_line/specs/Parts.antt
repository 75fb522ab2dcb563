-- The parts of a line, and the facts that it states.
-- (InfluxData 1.8, line protocol reference, syntax: measurement, tag set, field set, timestamp.)
use Rattle.std.specs.Prelude.{ℕ, ℤ, ◌≤◌, List, map, length}
use Rattle.std.specs.FinMap as finmap
use Rattle.ts_core.specs.facts.Facts.{Text, text_cmp, Series, Fact}
use Rattle.ts_core.specs.lists.Members.{AllDistinct}
use Rattle.ts_line.specs.Names.{IsName, AreKeys, AreTagTexts}

-- a part of a line: its byte offset, its bytes as written, and its unescaped text
pub record LinePart : Type 0 where
  pub start : ℕ
  pub raw : Text
  pub text : Text

-- a parsed line, its parts as ordered in the line; a repeated field key has its last value
pub record Parts : Type 0 where
  pub measurement : LinePart
  pub tags : List (LinePart × LinePart)
  pub fields : List (LinePart × ℤ)
  pub time : ℤ

abbrev pub tag_texts : LinePart × LinePart → Text × Text
tag_texts t = (t.0.text, t.1.text)

-- the series of a line; the order of its tags doesn't matter
abbrev pub series_of : Parts → Series
series_of p = record {
  measurement = p.measurement.text;
  tags = finmap.entries (finmap.from_entries {R = text_cmp} (map tag_texts p.tags));
}

abbrev pub fact_of : Parts → LinePart × ℤ → Fact
fact_of p field =
    record { column = record { series = series_of p; field = field.0.text }; time = p.time; value = field.1 }

-- one fact per field
abbrev pub line_facts : Parts → List Fact
line_facts p = map (fact_of p) p.fields

abbrev pub field_text : LinePart × ℤ → Text
field_text f = f.0.text

-- the fields of a line: 1 to 256, with distinct names
pub record AreFields (fields : List (LinePart × ℤ)) : Type 0 where
  pub some : 1 ≤ length fields
  pub few : length fields ≤ 256
  pub once : AllDistinct (map field_text fields)

-- the measurement, tags and fields of a line: at most 64 tags, and each name is one that a line can state
pub record AreParts (m : LinePart) (ts : List (LinePart × LinePart)) (fs : List (LinePart × ℤ)) : Type 0 where
  pub measurement : IsName m.text
  pub few_tags : length ts ≤ 64
  pub tags : AreTagTexts (map tag_texts ts)
  pub fields : AreFields fs
  pub field_names : AreKeys (map field_text fs)
