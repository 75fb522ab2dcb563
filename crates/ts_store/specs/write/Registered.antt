-- Series and columns after a write: the line's series is registered, and its columns are created in the order in which
-- its fields first occur. (Own rule.)
use Rattle.std.specs.Prelude.{◌≡◌, ◌⊎◌, not, List, [], ◌++◌, map, filter}
use Rattle.ts_core.specs.facts.Facts.{Series, Column, Fact}
use Rattle.ts_core.specs.store.StoreStates.{ColumnPoints, column_of}
use Rattle.ts_core.specs.store.RawFacts.{is_waiting}
use Rattle.ts_core.specs.lists.Numbered.{Gains}

-- the series may have been registered, and no other
abbrev pub MayGain : List Series → List Series → Series → Type 0
MayGain before after s = (after ≡ before) ⊎ Gains before after s

-- the missing columns of facts, in the order of the facts
abbrev pub new_columns : List Column → List Fact → List Column
new_columns columns facts = filter (λ (c : Column). not (is_waiting columns c)) (map (λ (f : Fact). f.column) facts)

abbrev pub without_points : Column → ColumnPoints
without_points c = record { column = c; points = [] }

-- these columns are appended, without points
abbrev pub with_columns : List ColumnPoints → List Column → List ColumnPoints
with_columns before made = before ++ map without_points made

-- all new columns of these facts are created, and nothing else changes
abbrev pub MakesAll : List ColumnPoints → List ColumnPoints → List Fact → Type 0
MakesAll before after facts = after ≡ with_columns before (new_columns (map column_of before) facts)

-- the first of the new columns of these facts are created, and nothing else changes
pub record MakesFirst (before after : List ColumnPoints) (facts : List Fact) : Type 0 where
  pub made : List Column
  pub others : List Column
  pub order : made ++ others ≡ new_columns (map column_of before) facts
  pub columns : after ≡ with_columns before made
