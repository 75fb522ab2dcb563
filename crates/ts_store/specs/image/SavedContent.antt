-- The parts of a store that an image saves: its series and columns in order, and the frozen parts of cells. (Own
-- rules.)
use Rattle.std.specs.Prelude.{◌≡◌, ◌↔◌, ◌&&◌, ℕ, ℤ, int_le, nat_lt, true, List, [], ◌∷◌, map, filter}
use Rattle.std.specs.declared.cmp.Ordering.{Ordering}
use Rattle.std.specs.Ordering.{is_lt}
use Rattle.std.specs.List.{AllByRecursion}
use Rattle.std.specs.FinMap as finmap
use Rattle.ts_core.specs.lists.Members.{Among}
use Rattle.ts_core.specs.lists.Numbered.{IsAt}
use Rattle.ts_core.specs.facts.Facts.{Text, Series, Column, text_cmp, series_cmp}
use Rattle.ts_core.specs.aggregates.Aggregates.{Aggregate}
use Rattle.ts_core.specs.store.Cells.{Cell}
use Rattle.ts_core.specs.store.StoreStates.{CellParts}
use Rattle.ts_core.specs.store.StoreData.{CellMap}

-- each item is before the next
abbrev pub AreRising : {X : Type 0} → (X → X → Ordering) → List X → Type 0
AreRising cmp [] = Unit {0}
AreRising cmp (x ∷ []) = Unit {0}
AreRising cmp (x ∷ y ∷ ys) = (is_lt (cmp x y) ≡ true) × AreRising cmp (y ∷ ys)

-- ---- series and columns

-- a column of a series, by its field, with its index
pub record SavedColumn : Type 0 where
  pub field : Text
  pub number : ℕ

pub record SavedSeries : Type 0 where
  pub series : Series
  pub columns : List SavedColumn

abbrev pub saved_field : SavedColumn → Text
saved_field x = x.field

abbrev pub saved_key : SavedSeries → Series
saved_key s = s.series

-- the series has exactly its columns, in the order of their fields
pub record SavesColumns (known : List Column) (s : SavedSeries) : Type 0 where
  pub rising : AreRising text_cmp (map saved_field s.columns)
  pub each : (x : SavedColumn) → Among x s.columns ↔ IsAt known x.number (record { series = s.series; field = x.field })

-- exactly the registered series, in the order of their keys, each with its columns
pub record SavesSeries (registered : List Series) (known : List Column) (saved : List SavedSeries) : Type 0 where
  pub rising : AreRising series_cmp (map saved_key saved)
  pub each : (s : Series) → Among s (map saved_key saved) ↔ Among s registered
  pub columns : AllByRecursion (SavesColumns known) saved

-- ---- cells

pub record FrozenCell : Type 0 where
  pub cell : Cell
  pub frozen : Aggregate

-- the cells from a low index on whose frozen part isn't empty, in their order
abbrev pub frozen_from : ℤ → CellMap → List FrozenCell
frozen_from low m =
    map (λ (e : Cell × CellParts). record { cell = e.0; frozen = e.1.frozen })
    (filter (λ (e : Cell × CellParts). int_le low e.0.index && nat_lt 0 e.1.frozen.count) (finmap.entries m))
