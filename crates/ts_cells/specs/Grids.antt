-- Cells by buckets and rollup series. A rollup series is a field with a group, referred to by its index. (Own rules.)
use Rattle.std.specs.Prelude.{◌≡◌, ℕ, ℤ, ◌≤◌, T, List, [], ◌∷◌, ◌++◌, length, get_or, Option, Some, None, refl, ◌==◌, if◌then◌else◌, map}
use Rattle.std.specs.Ordering.{int_cmp}
use Rattle.std.specs.List.{AllByRecursion}
use Rattle.std.specs.FinMap as finmap
use Rattle.std.specs.FinMap.{FinMap, is_sorted, find, from_entries}
use Rattle.std.specs.Coded.{Coded, code_by, coded×, coded_list}
use Rattle.ts_core.specs.lists.Members.{AllDistinct}
use Rattle.std.specs.Borrow.{Bor}
use Rattle.ts_core.specs.facts.Facts.{Text}
use Rattle.ts_core.specs.store.Cells.{Cell, cell_cmp}
use Rattle.ts_core.specs.lists.Changes.{or_else}
use Rattle.ts_core.specs.store.StoreCodes.{coded_text, coded_cell}

-- a field with a group, shared by its cells in all buckets
pub record RollupSeries : Type 0 where
  pub field : Text
  pub group : List Text

abbrev pub no_rollup_series : RollupSeries
no_rollup_series = record { field = []; group = [] }

-- the values of borrowed texts
abbrev pub borrowed_texts : List (Bor Text) → List Text
borrowed_texts xs = map (λ (x : Bor Text). x.now) xs

abbrev pub rollup_series_named : Text → List (Bor Text) → RollupSeries
rollup_series_named field group = record { field = field; group = borrowed_texts group }

abbrev pub rollup_series_of : Cell → RollupSeries
rollup_series_of k = record { field = k.field; group = k.group }

abbrev pub cell_at : ℤ → RollupSeries → Cell
cell_at index l = record { index = index; field = l.field; group = l.group }

-- the cell of a bucket in the rollup series with this index
abbrev pub cell_in : List RollupSeries → ℤ → ℕ → Cell
cell_in rollup_series index series = cell_at index (get_or rollup_series series no_rollup_series)

-- the rollup series in creation order, and the cells with their values
pub record Grid (P : Type 0) : Type 0 where
  pub rollup_series : List RollupSeries
  pub cells : FinMap cell_cmp P

-- ---- rows

-- a bucket's index, with its cells by the indices of their rollup series
abbrev pub RowOf : Type 0 → Type 0
RowOf P = ℤ × List (Option P)

abbrev pub held : {P : Type 0} → List (Option P) → ℕ → Option P
held cells series = get_or cells series None

abbrev pub row_entries : {P : Type 0} → ℤ → List RollupSeries → List (Option P) → List (Cell × P)
row_entries i [] cs = []
row_entries i (l ∷ ls) [] = []
row_entries i (l ∷ ls) (None ∷ cs) = row_entries i ls cs
row_entries i (l ∷ ls) (Some p ∷ cs) = (cell_at i l, p) ∷ row_entries i ls cs

abbrev pub entries_of : {P : Type 0} → List RollupSeries → List (RowOf P) → List (Cell × P)
entries_of ls [] = []
entries_of ls (r ∷ rs) = row_entries r.0 ls r.1 ++ entries_of ls rs

abbrev pub grid_of : {P : Type 0} → List RollupSeries → List (RowOf P) → Grid P
grid_of ls rows = record { rollup_series = ls; cells = from_entries (entries_of ls rows) }

abbrev pub RowsRise : {P : Type 0} → List (RowOf P) → Type 0
RowsRise rows = T (is_sorted int_cmp rows)

pub record IsGrid {P : Type 0} (ls : List RollupSeries) (rows : List (RowOf P)) : Type 0 where
  pub once : AllDistinct ls
  pub rising : RowsRise rows
  pub narrow : AllByRecursion (λ (r : RowOf P). length r.1 ≤ length ls) rows

-- the cells of a bucket
abbrev pub cells_of_bucket : {P : Type 0} → List (RowOf P) → ℤ → List (Option P)
cells_of_bucket rows index = or_else [] (find int_cmp index rows)

-- the row lost the cell of one rollup series, which had this value, and no other
pub record HasLost {P : Type 0} (part : P) (before after : List (Option P)) : Type 0 where
  pub series : ℕ
  pub was : held before series ≡ Some part
  pub cells : (j : ℕ) → held after j ≡ (if j == series then None else held before j)

-- ---- codes

abbrev pub coded_rollup_series : Coded RollupSeries
coded_rollup_series = code_by (Text × List Text) (coded× coded_text (coded_list coded_text))
    (λ l. (l.field, l.group)) (λ p. record { field = p.0; group = p.1 }) (λ _. refl)

abbrev pub coded_grid : {P : Type 0} → Coded P → Coded (Grid P)
coded_grid {P} c =
    code_by (List RollupSeries × FinMap cell_cmp P) (coded× (coded_list coded_rollup_series) (finmap.code coded_cell c))
    (λ g. (g.rollup_series, g.cells)) (λ p. record { rollup_series = p.0; cells = p.1 }) (λ _. refl)
