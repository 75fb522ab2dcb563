-- Results of a view: columns by index, points of a column, and cells with their parts. (Own rules.)
use Rattle.std.specs.Prelude.{◌≡◌, ℕ, ◌+◌, ◌<◌, ℤ, pos, Bool, true, length, List, [], ◌∷◌, filter, map, if◌then◌else◌, slice_index_or}
use Rattle.std.specs.List.{AllByRecursion}
use Rattle.ts_core.specs.facts.Facts.{Text, Series, Column, is_of, is_within}
use Rattle.ts_core.specs.lists.Numbered.{numbers_where}
use Rattle.ts_raw.specs.Tagged.{has_tag}
use Rattle.ts_core.specs.aggregates.Aggregates.{empty_aggregate}
use Rattle.ts_core.specs.store.Cells.{Cell}
use Rattle.ts_core.specs.store.TwoParts.{both_parts}
use Rattle.ts_core.specs.store.StoreStates.{ColumnPoints, CellParts, RuleCells}
use Rattle.ts_store.specs.read.PointsRead.{points_between}

-- a column by its index, with its series
pub record ColumnRef : Type 0 where
  pub number : ℕ
  pub series : Series

-- the columns that pass, indexed from n on
abbrev pub column_refs_from : (Column → Bool) → ℕ → List ColumnPoints → List ColumnRef
column_refs_from p n [] = []
column_refs_from p n (c ∷ cs) = if p c.column
    then record { number = n; series = c.column.series } ∷ column_refs_from p (n + 1) cs
    else column_refs_from p (n + 1) cs

abbrev pub column_refs_where : (Column → Bool) → List ColumnPoints → List ColumnRef
column_refs_where p cs = column_refs_from p 0 cs

abbrev pub no_points : ColumnPoints
no_points = record { column = record { series = record { measurement = []; tags = [] }; field = [] }; points = [] }

-- the points of the column with this index, from a, inclusive, to b, exclusive
abbrev pub points_at : List ColumnPoints → ℕ → ℤ → ℤ → List (ℤ × ℤ)
points_at cs n a b = points_between a b (slice_index_or cs n no_points).points

-- a cell with its parts
pub record SeenCell : Type 0 where
  pub cell : Cell
  pub parts : CellParts

abbrev pub with_parts : (Cell → CellParts) → Cell → SeenCell
with_parts parts k = record { cell = k; parts = parts k }

abbrev pub no_rule : RuleCells
no_rule = record {
  rule = record {
    name = [];
    measurement = [];
    interval = pos 1;
    offset = pos 0;
    kept_tags = [];
    duration = 0;
  };
  low = pos 0;
  cells = [];
  parts = λ k. both_parts empty_aggregate;
}

-- the cells of a rule from index a, inclusive, to index b, exclusive
abbrev pub cells_within : RuleCells → ℤ → ℤ → List SeenCell
cells_within r a b = map (with_parts r.parts) (filter (λ (k : Cell). is_within a b k.index) r.cells)

abbrev pub view_cells_at : List RuleCells → ℕ → ℤ → ℤ → List SeenCell
view_cells_at rs n a b = cells_within (slice_index_or rs n no_rule) a b

abbrev pub column_ref_of : ℕ × Series → ColumnRef
column_ref_of p = record { number = p.0; series = p.1 }

-- the column with this index in an index's list, with its series
abbrev pub column_ref_in : List Column → ℕ → ColumnRef
column_ref_in columns n = record {
  number = n;
  series =
      (slice_index_or columns n (record { series = record { measurement = []; tags = [] }; field = [] })).series;
}

-- the series of the column has the value of the tag
abbrev pub column_ref_has : Text → Text → ColumnRef → Bool
column_ref_has tag value s = has_tag tag value s.series

-- the column is of this measurement and this field
pub record IsNamed (measurement field : Text) (c : Column) : Type 0 where
  pub measurement_is : measurement ≡ c.series.measurement
  pub field_is : field ≡ c.field

-- all columns of one measurement and one field
pub record AreAllNamed (columns : List Column) (ns : List ℕ) : Type 0 where
  pub measurement : Text
  pub field : Text
  pub are : ns ≡ numbers_where (is_of measurement field) columns

-- columns of an index; if `whole`, they are all those of one measurement and one field
pub record AreColumns (columns : List Column) (ns : List ℕ) (whole : Bool) : Type 0 where
  pub there : AllByRecursion (λ n. n < length columns) ns
  pub all : whole ≡ true → AreAllNamed columns ns
