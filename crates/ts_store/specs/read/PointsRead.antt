-- Reads of columns: the number of their points, and the points of one of them. (Own rule.)
use Rattle.std.specs.Prelude.{◌≡◌, ◌↔◌, ◌≤ℤ◌, ℕ, ℤ, true, List, filter}
use Rattle.std.specs.List.{sum_by}
use Rattle.std.specs.FinMap as finmap
use Rattle.ts_core.specs.lists.Members.{Among}
use Rattle.ts_core.specs.facts.Facts.{Column, Fact, is_within}
use Rattle.ts_core.specs.settings.Settings.{Settings}
use Rattle.ts_core.specs.store.History.{History, raw_mark}
use Rattle.ts_core.specs.facts.Latest.{latest_of}
use Rattle.ts_core.specs.store.RawFacts.{is_kept, kept_from, raw_of}
use Rattle.ts_core.specs.store.StoreStates.{ColumnPoints, fact_at}
use Rattle.ts_raw.specs.Columns.{ColumnState}
use Rattle.ts_raw.specs.PlainColumns.{IsRising}

-- the number of points of all columns
abbrev pub number_of_points : List ColumnState → ℕ
number_of_points states = sum_by (λ (s : ColumnState). finmap.len s.points) states

-- a column's points are in the order of time, each time once
abbrev pub HasRisingPoints : ColumnPoints → Type 0
HasRisingPoints c = IsRising c.points

-- the points of a list from a, inclusive, to b, exclusive
abbrev pub points_between : ℤ → ℤ → List (ℤ × ℤ) → List (ℤ × ℤ)
points_between a b ps = filter (λ (p : ℤ × ℤ). is_within a b p.0) ps

-- the points of a column from a, inclusive, to b, exclusive; at or above the raw mark, they are exactly those of the
-- latest facts
abbrev pub AreLatestOf : Column → ℤ → ℤ → List (ℤ × ℤ) → Settings → History → Type 0
AreLatestOf c a b ps opening h =
    (p : ℤ × ℤ)
    → raw_mark opening h ≤ℤ p.0 → Among p ps ↔ (Among (fact_at c p) (latest_of h) × (is_within a b p.0 ≡ true))

-- the points of a column from a, inclusive, to b, exclusive, are exactly those of its raw facts, if these columns wait
abbrev pub AreRawOf : List Column → Column → ℤ → ℤ → List (ℤ × ℤ) → Settings → History → Type 0
AreRawOf waiting c a b ps opening h = (p : ℤ × ℤ)
    → Among p ps ↔ (Among (fact_at c p) (raw_of opening h waiting c) × (is_within a b p.0 ≡ true))

-- the raw facts of all columns, if these columns wait
abbrev pub all_raw : List Column → Settings → History → List Fact
all_raw waiting opening h = filter (is_kept (kept_from opening h waiting)) (latest_of h)
