-- A store that was saved and loaded back: its series, columns and cells. (Own rules.)
use Rattle.std.specs.Prelude.{◌≡◌, ℤ, List, [], ◌∷◌, ◌++◌, map, filter}
use Rattle.ts_core.specs.facts.Facts.{Series, Column}
use Rattle.ts_core.specs.settings.Settings.{Rule}
use Rattle.ts_core.specs.store.History.{History}
use Rattle.ts_core.specs.facts.Latest.{latest_of}
use Rattle.ts_core.specs.store.RawFacts.{is_waiting}
use Rattle.ts_store.specs.store.Inventories.{Inventory, AreFilled, OfRules}
use Rattle.ts_store.specs.image.SavedContent.{SavedColumn, SavedSeries, saved_key, SavesSeries}

abbrev pub saved_column_named : Series → SavedColumn → Column
saved_column_named s x = record { series = s; field = x.field }

-- the columns of series, in this order
abbrev pub saved_columns : List SavedSeries → List Column
saved_columns [] = []
saved_columns (s ∷ ss) = map (saved_column_named s.series) s.columns ++ saved_columns ss

-- The same series are registered, now in the order of their keys. The columns are the same, in the order of series and
-- field, and the same of them wait, in that order. Empty cells and cells below a low index are gone.
pub record Reloaded (h : History) (rules : List Rule)
    (lows : List ℤ) (registered : List Series) (old : Inventory) (kept : List Series) (new : Inventory) : Type 0 where
  pub order : List SavedSeries
  pub saved : SavesSeries registered old.columns order
  pub series : kept ≡ map saved_key order
  pub columns : new.columns ≡ saved_columns order
  pub waiting : new.waiting ≡ filter (is_waiting old.waiting) new.columns
  pub cells : OfRules (λ r low before after. AreFilled (latest_of h) r low after) rules lows old.cells new.cells
