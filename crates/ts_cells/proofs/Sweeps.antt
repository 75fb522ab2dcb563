-- Expiry in progress: cells are removed one by one, and the rows that are emptied are removed together.
use Rattle.std.proofs.Common.{◌≡◌, ◌≢◌, ◌<◌, ◌≤◌, ◌≤ℤ◌, ◌+◌, ℕ, ℤ, List, length, drop, sym, ◌∙◌, subst, add-one, refl, None, Bool, true, false, cond, arith}
use Rattle.ts_cells.specs.Grids.{RollupSeries, RowOf, held, cells_of_bucket, RowsRise, IsGrid, grid_of}
use Rattle.std.specs.FinMap.{FinMap}
use Rattle.ts_core.specs.store.Cells.{cell_cmp}
use Rattle.ts_core.specs.store.TwoParts.{PartsOf}
use Rattle.ts_cells.specs.FrozenCounts.{has_frozen_facts, frozen_one, frozen_cell_count}
use Rattle.ts_cells.specs.Expiry.{HasEmptyFront, LosesOne, Removes, LosesBelow}
use Rattle.ts_cells.specs.RowChanges.{NoWider, IsSweptTo}
use Rattle.ts_cells.proofs.GridMoves.{grid_kept}
use Rattle.ts_cells.proofs.ExpiryLemmas.{removes, removes_frozen, inside_of, no_front, rising_drop, all_drop, cells_drop, above_all}

-- n cells were removed, and n rows at the front are empty
pub record IsSwept {P : Type 0} (low : ℤ) (before : List (RowOf P)) (removed emptied : ℕ) (rows : List (RowOf P)) : Type 0 where
  pub rising : RowsRise rows
  pub front : HasEmptyFront emptied rows
  pub few : removed ≤ 256
  pub grid : (ls : List RollupSeries) → IsGrid ls before → IsGrid ls rows
  pub cells : (ls : List RollupSeries) → IsGrid ls before → Removes low removed (grid_of ls before).cells (grid_of ls rows).cells

-- none was removed yet
pub no_sweep : {P : Type 0} (low : ℤ) (rows : List (RowOf P)) → RowsRise rows → IsSwept low rows 0 0 rows
no_sweep low rows s = record { rising = s; front = no_front rows; few = omega arith; grid = λ ls g. g; cells = λ ls g. refl }

module _ {P : Type 0} (low : ℤ) (before rows after : List (RowOf P)) where
  grid_after : RowsRise after → NoWider rows after → (ls : List RollupSeries) → IsGrid ls rows → IsGrid ls after
  grid_after t w ls g = record { once = g.once; rising = t; narrow = w (length ls) g.narrow }

  -- one cell more
  pub swept_more : (n e f : ℕ) → n + 1 ≤ 256 → IsSwept low before n e rows → IsSweptTo f rows after → (part : P) → LosesOne low part rows after → IsSwept low before (n + 1) f after
  swept_more n e f few s t part l = record {
    rising = t.rising;
    front = t.front;
    few = few;
    grid = λ ls g. grid_after t.rising t.narrow ls (s.grid ls g);
    cells = λ ls g.
        let h : IsGrid ls rows = s.grid ls g in
        subst (λ m. Removes low m (grid_of ls before).cells (grid_of ls after).cells) (sym (add-one n))
        ((grid_of ls rows).cells, s.cells ls g, removes low ls rows after part h.once s.rising t.rising (inside_of (length ls) rows h.narrow) l);
  }

  -- the same cells
  pub swept_same : (n e f : ℕ) → IsSwept low before n e rows → IsSweptTo f rows after → ((i : ℤ) (j : ℕ) → held (cells_of_bucket after i) j ≡ held (cells_of_bucket rows i) j) → IsSwept low before n f after
  swept_same n e f s t same = record {
    rising = t.rising;
    front = t.front;
    few = s.few;
    grid = λ ls g. grid_after t.rising t.narrow ls (s.grid ls g);
    cells = λ ls g.
        let h : IsGrid ls rows = s.grid ls g in
        subst (Removes low n (grid_of ls before).cells) (sym (grid_kept ls rows after h.once s.rising t.rising same)) (s.cells ls g);
  }

module _ {P : Type 0} (low : ℤ) (before rows : List (RowOf P)) (n e : ℕ) (s : IsSwept low before n e rows) where
  -- the empty rows go
  pub swept_grid : (ls : List RollupSeries) → IsGrid ls before → IsGrid ls (drop e rows)
  swept_grid ls g =
      let h : IsGrid ls rows = s.grid ls g in record { once = h.once; rising = rising_drop e rows s.rising; narrow = all_drop (λ (r : RowOf P). length r.1 ≤ length ls) e rows h.narrow }

  swept_cells : (ls : List RollupSeries) → IsGrid ls before → Removes low n (grid_of ls before).cells (grid_of ls (drop e rows)).cells
  swept_cells ls g =
      let h : IsGrid ls rows = s.grid ls g in
      subst (Removes low n (grid_of ls before).cells) (sym (grid_kept ls rows (drop e rows) h.once s.rising (rising_drop e rows s.rising) (cells_drop e rows s.rising s.front))) (s.cells ls g)

  pub swept_out : (n < 256 → (i : ℤ) (j : ℕ) → held (cells_of_bucket rows i) j ≢ None → low ≤ℤ i) → (ls : List RollupSeries) → IsGrid ls before → LosesBelow low n (grid_of ls before).cells (grid_of ls (drop e rows)).cells
  swept_out above ls g =
      let h : IsGrid ls rows = s.grid ls g in record {
        few = s.few;
        removed = swept_cells ls g;
        all = λ few. above_all low ls (drop e rows) h.once (rising_drop e rows s.rising) (λ i j some. above few i j (λ none. some (cells_drop e rows s.rising s.front i j ∙ none)));
      }

-- n cells were removed, of which `lost` had frozen facts, and m rows at the front are empty
pub record IsCountedSweep {P : Type 0} (size : P → ℕ) (low : ℤ) (before : List (RowOf (PartsOf P))) (removed lost emptied : ℕ) (rows : List (RowOf (PartsOf P))) : Type 0 where
  pub swept : IsSwept low before removed emptied rows
  pub few : lost ≤ removed
  pub counted : (ls : List RollupSeries) → IsGrid ls before → frozen_cell_count size (grid_of ls rows).cells + lost ≡ frozen_cell_count size (grid_of ls before).cells

pub no_counted_sweep : {P : Type 0} (size : P → ℕ) (low : ℤ) (rows : List (RowOf (PartsOf P))) → RowsRise rows → IsCountedSweep size low rows 0 0 0 rows
no_counted_sweep size low rows s = record { swept = no_sweep low rows s; few = omega arith; counted = λ ls g. omega arith }

one_at_most : (b : Bool) → cond b 1 0 ≤ 1
one_at_most true = omega arith
one_at_most false = omega arith

module _ {P : Type 0} (size : P → ℕ) (low : ℤ) (before rows after : List (RowOf (PartsOf P))) where
  -- one cell more
  pub counted_more : (n lost e f : ℕ) → n + 1 ≤ 256 → IsCountedSweep size low before n lost e rows → IsSweptTo f rows after → (part : PartsOf P) → LosesOne low part rows after → IsCountedSweep size low before (n + 1) (lost + frozen_one size part) f after
  counted_more n lost e f few s t part l = record {
    swept = swept_more low before rows after n e f few s.swept t part l;
    few = let a = s.few in let b = one_at_most (has_frozen_facts size part) in omega arith;
    counted = λ ls g.
        let h : IsGrid ls rows = s.swept.grid ls g in
        let gone = removes_frozen size low ls rows after part h.once s.swept.rising t.rising (inside_of (length ls) rows h.narrow) l in
        let all = s.counted ls g in
        omega arith;
  }

  -- the same cells
  pub counted_same : (n lost e f : ℕ) → IsCountedSweep size low before n lost e rows → IsSweptTo f rows after → ((i : ℤ) (j : ℕ) → held (cells_of_bucket after i) j ≡ held (cells_of_bucket rows i) j) → IsCountedSweep size low before n lost f after
  counted_same n lost e f s t same = record {
    swept = swept_same low before rows after n e f s.swept t same;
    few = s.few;
    counted = λ ls g.
        let h : IsGrid ls rows = s.swept.grid ls g in
        subst (λ (m : FinMap cell_cmp (PartsOf P)). frozen_cell_count size m + lost ≡ frozen_cell_count size (grid_of ls before).cells) (sym (grid_kept ls rows after h.once s.swept.rising t.rising same)) (s.counted ls g);
  }

-- the empty rows go
pub counted_out : {P : Type 0} (size : P → ℕ) (low : ℤ) (before rows : List (RowOf (PartsOf P))) (n lost e : ℕ) → IsCountedSweep size low before n lost e rows → (ls : List RollupSeries) → IsGrid ls before
    → frozen_cell_count size (grid_of ls (drop e rows)).cells + lost ≡ frozen_cell_count size (grid_of ls before).cells
counted_out size low before rows n lost e s ls g =
    let h : IsGrid ls rows = s.swept.grid ls g in
    subst (λ (m : FinMap cell_cmp (PartsOf _)). frozen_cell_count size m + lost ≡ frozen_cell_count size (grid_of ls before).cells)
    (sym (grid_kept ls rows (drop e rows) h.once s.swept.rising (rising_drop e rows s.swept.rising) (cells_drop e rows s.swept.rising s.swept.front))) (s.counted ls g)
