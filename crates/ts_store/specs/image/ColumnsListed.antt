-- Columns in the lists of their series, in creation order. (Own rules.)
use Rattle.std.specs.Prelude.{◌≡◌, ◌↔◌, ◌<◌, ◌++◌, ℕ, List, [], ◌∷◌, map}
use Rattle.std.specs.List.{AllByRecursion}
use Rattle.ts_core.specs.lists.Members.{Among, AllDistinct}
use Rattle.ts_core.specs.lists.Numbered.{IsAt}
use Rattle.ts_core.specs.facts.Facts.{Series, Column}
use Rattle.ts_raw.specs.Indexed.{Indexed}
use Rattle.ts_store.specs.image.SavedContent.{SavedColumn, SavedSeries, saved_field, saved_key}

abbrev pub without_columns : Series → SavedSeries
without_columns s = record { series = s; columns = [] }

abbrev pub with_saved_column : SavedSeries → SavedColumn → SavedSeries
with_saved_column s x = record { series = s.series; columns = s.columns ++ x ∷ [] }

-- the series has exactly its columns with an index below n, each field once
pub record ListsFirst (columns : List Column) (n : ℕ) (s : SavedSeries) : Type 0 where
  pub once : AllDistinct (map saved_field s.columns)
  pub each : (x : SavedColumn)
      → Among x s.columns ↔ ((x.number < n) × IsAt columns x.number (record { series = s.series; field = x.field }))

-- the same for each series of an index
pub record ListsColumns (index : Indexed) (n : ℕ) (all : List SavedSeries) : Type 0 where
  pub keys : map saved_key all ≡ index.series
  pub lists : AllByRecursion (ListsFirst index.columns n) all
