-- Parts that are frozen one after another, and the points of a column that are in a cell.
use Rattle.std.proofs.Common.{◌≡◌, ℤ, ◌+◌, ◌≤◌, ◌^◌, true, false, cond, ◌&&◌, List, ◌∷◌, length, filter, refl, sym, ◌∙◌, ap, subst, arith, Option, Some, None, option_map, nat_lt}
use Rattle.std.specs.FinMap as finmap
use Rattle.std.specs.FinMap.{same_map}
use Rattle.ts_core.specs.facts.Facts.{Column, same_text}
use Rattle.ts_core.specs.settings.Settings.{Rule}
use Rattle.ts_core.specs.aggregates.Aggregates.{Aggregate, merged, merged_within}
use Rattle.ts_core.specs.aggregates.MergeLaws.{aggregate_laws}
use Rattle.ts_core.specs.store.Cells.{Cell, same_cell, cell_of, is_in_cell}
use Rattle.ts_core.specs.lists.Changes.{changed, with_change, or_else}
use Rattle.ts_core.specs.store.StoreStates.{CellParts, fact_at}
use Rattle.ts_core.specs.store.TwoParts.{in_frozen}
use Rattle.ts_core.specs.store.StoreData.{CellMap, no_parts}
use Rattle.ts_core.proofs.aggregates.AggregatesLemmas.{merged_within-fits}
use Rattle.ts_core.proofs.plans.PieceCells.{cells_total, exact_cells, same_cell-eq, same_cell-refl}
use Rattle.ts_core.proofs.lists.Comparisons.{same_bool}
use Rattle.ts_cells.specs.Grids.{Grid}
use Rattle.ts_cells.proofs.GridMoves.{get-changed}
use Rattle.ts_store.specs.store.CellCounts.{frozen_count}
use Rattle.ts_store.specs.rollup.Rollups.{RollupState, with_grid_cells}
use Rattle.ts_store.specs.retain.RollupSteps.{points_in_cell}

-- ---- parts frozen

-- two changes of a cell are one
pub changed_both : (m : CellMap) (q : Cell) (f g : CellParts → CellParts) → changed (changed m q f) q g ≡ changed m q (λ a. g (f a))
changed_both m q f g =
    let n : CellMap = changed m q f in
    let here : finmap.get n q ≡ option_map f (finmap.get m q) = get-changed m q f q ∙ ap (λ b. cond b (option_map f (finmap.get m q)) (finmap.get m q)) (same_cell-refl q) in
    same_map cells_total exact_cells (changed n q g) (changed m q (λ a. g (f a))) (λ k.
    get-changed n q g k
    ∙ elim (same_cell k q) as (λ b. same_cell k q ≡ b → cond b (option_map g (finmap.get n q)) (finmap.get n k) ≡ cond b (option_map (λ a. g (f a)) (finmap.get m q)) (finmap.get m k)) [
      | true ↦ λ e. ap (option_map g) here ∙ elim (finmap.get m q) as (λ o. option_map g (option_map f o) ≡ option_map (λ a. g (f a)) o) [ None ↦ refl | Some a ↦ refl ]
      | false ↦ λ e. get-changed m q f k ∙ ap (λ b. cond b (option_map f (finmap.get m q)) (finmap.get m k)) e
    ] refl
    ∙ sym (get-changed m q (λ a. g (f a)) k))

-- changes that are alike at the cell's value are one
changed_alike : (m : CellMap) (q : Cell) (f g : CellParts → CellParts) → ((a : CellParts) → finmap.get m q ≡ Some a → f a ≡ g a) → changed m q f ≡ changed m q g
changed_alike m q f g same =
    elim (finmap.get m q) as (λ o. finmap.get m q ≡ o → with_change m q f o ≡ with_change m q g o) [ None ↦ λ e. refl | Some a ↦ λ e. ap (finmap.insert m q) (same a e) ] refl

-- one part after another, where they fit
pub changed-twice : (m : CellMap) (q : Cell) (part one : Aggregate) → frozen_count m q + part.count + one.count ≤ 2 ^ 62
    → changed (changed m q (in_frozen (merged_within part))) q (in_frozen (merged_within one)) ≡ changed m q (in_frozen (merged_within (merged part one)))
changed-twice m q part one few =
    changed_both m q (in_frozen (merged_within part)) (in_frozen (merged_within one))
    ∙ changed_alike m q _ _ (λ a e.
    let z : Aggregate = a.frozen in
    let count : frozen_count m q ≡ z.count = ap (λ o. (or_else no_parts o).frozen.count) e in
    let same : merged_within one (merged_within part z) ≡ merged_within (merged part one) z =
    ap (λ (x : Aggregate). merged_within one x) (merged_within-fits part z (omega arith)) ∙ merged_within-fits one (merged z part) (omega arith) ∙ aggregate_laws.assoc z part one ∙ sym (merged_within-fits (merged part one) z (omega arith)) in
    λ i. record { frozen = same i; live = a.live })

joined_most : (part : Aggregate) (o : Option CellParts) → (or_else no_parts (option_map (in_frozen (merged_within part)) o)).frozen.count ≤ (or_else no_parts o).frozen.count + part.count
joined_most part None = omega arith
joined_most part (Some a) = elim (nat_lt (2 ^ 62) (a.frozen.count + part.count)) as (λ b. (cond b a.frozen (merged a.frozen part)).count ≤ a.frozen.count + part.count) [ true ↦ omega arith | false ↦ omega arith ]

-- a cell gains no more than the part has
pub frozen_most : (m : CellMap) (q : Cell) (part : Aggregate) (k : Cell) → frozen_count (changed m q (in_frozen (merged_within part))) k ≤ frozen_count m k + cond (same_cell k q) part.count 0
frozen_most m q part k =
    let after : CellMap = changed m q (in_frozen (merged_within part)) in
    let is : finmap.get after k ≡ cond (same_cell k q) (option_map (in_frozen (merged_within part)) (finmap.get m q)) (finmap.get m k) = get-changed m q (in_frozen (merged_within part)) k in
    let bound : (or_else no_parts (cond (same_cell k q) (option_map (in_frozen (merged_within part)) (finmap.get m q)) (finmap.get m k))).frozen.count ≤ frozen_count m k + cond (same_cell k q) part.count 0 =
    elim (same_cell k q) as (λ b. same_cell k q ≡ b → (or_else no_parts (cond b (option_map (in_frozen (merged_within part)) (finmap.get m q)) (finmap.get m k))).frozen.count ≤ frozen_count m k + cond b part.count 0) [
      | true ↦ λ e.
          let same : frozen_count m k ≡ frozen_count m q = ap (frozen_count m) (same_cell-eq k q e) in
          let most : (or_else no_parts (option_map (in_frozen (merged_within part)) (finmap.get m q))).frozen.count ≤ frozen_count m q + part.count = joined_most part (finmap.get m q) in
          omega arith
      | false ↦ λ e. omega arith
    ] refl in
    subst (λ o. (or_else no_parts o).frozen.count ≤ frozen_count m k + cond (same_cell k q) part.count 0) (sym is) bound

-- ---- under the rollup series of a rule, which stay

pub grid_kept_then : (before s t : RollupState) (m : CellMap) → s ≡ with_grid_cells s.grid.cells before → t ≡ with_grid_cells m s → t ≡ with_grid_cells t.grid.cells before
grid_kept_then before s t m e f = f ∙ ap (with_grid_cells m) e ∙ ap (λ (x : CellMap). with_grid_cells x before) (sym (ap (λ (x : RollupState). x.grid.cells) f))

-- cells are changed in place
pub with_grid : (v s : RollupState) (grid : Grid CellParts) → v ≡ s → grid.rollup_series ≡ v.grid.rollup_series → record v { grid = grid } ≡ with_grid_cells grid.cells s
with_grid v s grid is kept = (λ i. record { grid = record { rollup_series = kept i; cells = grid.cells }; series_of_column = v.series_of_column; next = v.next }) ∙ ap (with_grid_cells grid.cells) is

-- ---- the points of a column in a cell

pub flipped : (q k : Cell) → same_cell q k ≡ same_cell k q
flipped q k = same_bool (same_cell q k) (same_cell k q) (λ e. ap (λ z. same_cell k z) (same_cell-eq q k e) ∙ same_cell-refl k) (λ e. ap (λ z. same_cell q z) (same_cell-eq k q e) ∙ same_cell-refl q)

module _ (r : Rule) (c : Column) where
  -- the next point is in a cell, or not
  pub first_in : (k : Cell) (p : ℤ × ℤ) (ps : List (ℤ × ℤ)) → same_text c.series.measurement r.measurement ≡ true → points_in_cell r c k (p ∷ ps) ≡ cond (same_cell k (cell_of r (fact_at c p))) 1 0 + points_in_cell r c k ps
  first_in k p ps t =
      let q : Cell = cell_of r (fact_at c p) in
      let rest : List (ℤ × ℤ) = filter (λ (x : ℤ × ℤ). is_in_cell r k (fact_at c x)) ps in
      ap (λ b. length (cond b (p ∷ rest) rest)) (ap (λ b. b && same_cell q k) t ∙ flipped q k)
      ∙ elim (same_cell k q) as (λ b. length (cond b (p ∷ rest) rest) ≡ cond b 1 0 + length rest) [ true ↦ omega arith | false ↦ omega arith ]
