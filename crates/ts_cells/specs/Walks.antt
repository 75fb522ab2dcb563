-- Iteration over cells, ordered by index, field and group. (Own rules.)
use Rattle.std.specs.Prelude.{ℕ, ℤ, List, [], ◌∷◌, ◌++◌, filter, Option, Some, None, refl}
use Rattle.std.specs.FinMap as finmap
use Rattle.std.specs.FinMap.{FinMap}
use Rattle.std.specs.Coded.{Coded, code_by, coded×, coded_ℕ}
use Rattle.ts_core.specs.facts.Facts.{is_within}
use Rattle.ts_core.specs.store.Cells.{Cell, cell_cmp}
use Rattle.ts_core.specs.store.StoreCodes.{coded_cell}
use Rattle.ts_cells.specs.Grids.{RollupSeries, cell_in, RowOf, held}

-- a cell with its part and the index of its rollup series
pub record CellWithPart (P : Type 0) : Type 0 where
  pub series : ℕ
  pub cell : Cell
  pub part : P

abbrev pub entry_of : {P : Type 0} → CellWithPart P → Cell × P
entry_of k = (k.cell, k.part)

-- the cells from index `from`, inclusive, to index `to`, exclusive, in their order
abbrev pub entries_within : {P : Type 0} → ℤ → ℤ → FinMap cell_cmp P → List (Cell × P)
entries_within {P} from to m = filter (λ (e : Cell × P). is_within from to e.0.index) (finmap.entries m)

-- ---- the remaining cells of an iterator

-- prepends a cell, if it exists
abbrev pub with_entry : {P : Type 0} → Option P → ℕ → Cell → List (CellWithPart P) → List (CellWithPart P)
with_entry None n k rest = rest
with_entry (Some p) n k rest = record { series = n; cell = k; part = p } ∷ rest

-- the cells of a bucket in the rollup series with these indices
abbrev pub row_left : {P : Type 0} → List RollupSeries → ℤ → List (Option P) → List ℕ → List (CellWithPart P)
row_left rollup_series i cs [] = []
row_left rollup_series i cs (n ∷ ns) =
    with_entry (held cs n) n (cell_in rollup_series i n) (row_left rollup_series i cs ns)

-- the cells of the first row in the remaining rollup series, and those of the other rows in all rollup series
abbrev pub walk_left : {P : Type 0} → List RollupSeries → List ℕ → List (RowOf P) → List ℕ → List (CellWithPart P)
walk_left rollup_series order [] left = []
walk_left rollup_series order (r ∷ rs) left =
    row_left rollup_series r.0 r.1 left ++ walk_left rollup_series order rs order

-- ---- codes

abbrev pub coded_cell_with_part : {P : Type 0} → Coded P → Coded (CellWithPart P)
coded_cell_with_part {P} c = code_by (ℕ × (Cell × P)) (coded× coded_ℕ (coded× coded_cell c))
    (λ k. (k.series, (k.cell, k.part))) (λ p. record { series = p.0; cell = p.1.0; part = p.1.1 }) (λ _. refl)
