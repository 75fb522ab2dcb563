-- The content of an index. (InfluxData 1.8, key concepts: series, field key; own rule: creation order.)
use Rattle.std.specs.Prelude.{ℕ, List, [], slice_index_or}
use Rattle.ts_core.specs.lists.Members.{Among, AllDistinct}
use Rattle.ts_core.specs.facts.Facts.{Text, Series, Column}

-- the registered series and the columns, each in creation order; an id is an index in its list
pub record Indexed : Type 0 where
  pub series : List Series
  pub columns : List Column

abbrev pub no_series : Series
no_series = record { measurement = []; tags = [] }

-- the column of the series with this index, and a field
abbrev pub column_in : Indexed → ℕ → Text → Column
column_in index series field = record { series = slice_index_or index.series series no_series; field = field }

-- the series are distinct, the columns are distinct, and each column is of a registered series
pub record IsSoundIndex (index : Indexed) : Type 0 where
  pub series_once : AllDistinct index.series
  pub columns_once : AllDistinct index.columns
  pub registered : (c : Column) → Among c index.columns → Among c.series index.series
