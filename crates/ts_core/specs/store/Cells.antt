-- The cells of a rollup rule, and the two parts of a cell over a list of facts.
-- (InfluxData 1.8, downsampling and data retention: an aggregate of each bucket and each group of tags. Own rules: late
-- facts count too, where a continuous query runs once for a bucket; and the two parts.)
use Rattle.std.specs.Prelude.{ℤ, Bool, not, ◌&&◌, List, filter}
use Rattle.std.specs.declared.cmp.Ordering.{Ordering}
use Rattle.std.specs.Ordering.{ordering_then, eq_by_cmp, int_cmp}
use Rattle.std.specs.Cmp.Lexicographic.{slice_cmp}
use Rattle.ts_core.specs.facts.Facts.{Text, text_cmp, same_text, Column, Fact}
use Rattle.ts_core.specs.facts.Tags.{tag_values}
use Rattle.ts_core.specs.settings.Settings.{Rule}
use Rattle.ts_core.specs.store.Marks.{index_of}
use Rattle.ts_core.specs.aggregates.Aggregates.{Aggregate, aggregate_of}
use Rattle.ts_core.specs.store.RawFacts.{is_kept}

-- a bucket, a field and a group, which has the values of the rule's kept tags
pub record Cell : Type 0 where
  pub index : ℤ
  pub field : Text
  pub group : List Text

-- cells are ordered by index, then field, then group
abbrev pub cell_cmp : Cell → Cell → Ordering
cell_cmp a b = ordering_then
    (int_cmp a.index b.index) (ordering_then (text_cmp a.field b.field) (slice_cmp text_cmp a.group b.group))

abbrev pub same_cell : Cell → Cell → Bool
same_cell = eq_by_cmp cell_cmp

-- the cell of a fact under a rule
abbrev pub cell_of : Rule → Fact → Cell
cell_of r f =
    record { index = index_of r f.time; field = f.column.field; group = tag_values r.kept_tags f.column.series }

-- the fact is of the rule's measurement
abbrev pub is_rolled : Rule → Fact → Bool
is_rolled r f = same_text f.column.series.measurement r.measurement

abbrev pub is_in_cell : Rule → Cell → Fact → Bool
is_in_cell r k f = is_rolled r f && same_cell (cell_of r f) k

-- ---- the content of a cell

-- the aggregate of all its facts
abbrev pub total_of : Rule → Cell → List Fact → Aggregate
total_of r k fs = aggregate_of (filter (is_in_cell r k) fs)

-- the aggregate of its facts below their column's cut
abbrev pub frozen_of : (Column → ℤ) → Rule → Cell → List Fact → Aggregate
frozen_of cut r k fs = aggregate_of (filter (λ (f : Fact). is_in_cell r k f && not (is_kept cut f)) fs)

-- the aggregate of its facts at or above the cut
abbrev pub live_of : (Column → ℤ) → Rule → Cell → List Fact → Aggregate
live_of cut r k fs = aggregate_of (filter (λ (f : Fact). is_in_cell r k f && is_kept cut f) fs)
