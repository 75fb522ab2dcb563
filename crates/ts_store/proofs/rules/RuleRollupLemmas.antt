-- The rollup of a rule over columns that exist: its rollup series, column after column, and its cells.
use Rattle.std.proofs.Common.{◌≡◌, ◌≢◌, ◌≤ℤ◌, ◌&&◌, ◌+◌, ℕ, suc, ℤ, List, [], ◌∷◌, ◌++◌, length, map, take, Option, Some, None, refl, sym, ◌∙◌, ap, ap₂, subst, inr, ⊎_elim, arith}
use Rattle.std.specs.FinMap as finmap
use Rattle.std.specs.FinMap.{get-empty}
use Rattle.std.specs.List.{AllByRecursion}
use Rattle.std.proofs.Math.Seq.{take-suc, take-length}
use Rattle.std.proofs.lemmas.Int.{ints}
use Rattle.std.proofs.lemmas.List.{length_push}
use Rattle.std.proofs.lemmas.Option.{none-some, slice_get_within, get_or_from_slice_get}
use Rattle.ts_core.specs.lists.Numbered.{IsAt}
use Rattle.ts_core.specs.facts.Facts.{Column, Fact}
use Rattle.ts_core.specs.settings.Settings.{Rule}
use Rattle.ts_core.specs.store.Cells.{Cell, cell_cmp, cell_of, total_of}
use Rattle.ts_core.specs.lists.Changes.{or_else}
use Rattle.ts_core.specs.store.StoreStates.{CellParts, column_of, facts_of}
use Rattle.ts_core.specs.store.StoreData.{CellMap, no_parts}
use Rattle.ts_core.specs.moves.RuleMoves.{IsFresh}
use Rattle.ts_core.proofs.moves.MovesStand.{keys_once, key_there, key_not}
use Rattle.ts_core.proofs.plans.PieceCells.{same_cell-refl}
use Rattle.ts_core.proofs.store.StateLemmas.{same_head}
use Rattle.ts_raw.specs.Columns.{ColumnState}
use Rattle.ts_raw.specs.Indexed.{Indexed}
use Rattle.ts_store.specs.image.BuildingParts.{AreIdle, FillsCells, KeepFrozen}
use Rattle.ts_store.specs.store.PossibleCells.{HasPossibleCells}
use Rattle.ts_store.specs.store.ColumnStates.{IsSoundContent, content_of, columns_in}
use Rattle.ts_store.specs.store.Inventories.{AreFilled}
use Rattle.ts_store.specs.write.LinesPut.{IsOfFacts, PutsCells}
use Rattle.ts_store.specs.rules.RuleRollups.{HasFirstRollupSeries, IsRollupOf}
use Rattle.ts_store.specs.rollup.Rollups.{RollupState, HaveRollupSeries, KeepsCells, HasNext, cells_of, new_rollup, joined_rollup_series, with_next, with_grid_cells}
use Rattle.ts_store.specs.retain.RollupSteps.{with_all_grid_cells}
use Rattle.ts_store.proofs.store.ColumnsLemmas.{names_held}
use Rattle.ts_store.proofs.write.PointsPut.{grids_kept_then}
use Rattle.ts_store.proofs.rollup.RollupsGrow.{rollup_series_all_kept, rollup_series_push}
use Rattle.ts_store.proofs.rollup.RulesFilled.{all_fill}
use Rattle.ts_store.specs.rollup.PointsFilled.{MakeAllPoints, AddAllPoints}

-- ---- rollup series

pub no_series : (r : Rule) (columns : List Column) → HasFirstRollupSeries r columns 0 new_rollup
no_series r columns = record { series = tt; many = refl; cells = refl }

take-push : {X : Type 0} (xs : List X) (n : ℕ) (x : X) → IsAt xs n x → take (n + 1) xs ≡ take n xs ++ x ∷ []
take-push xs n x at = ap (λ k. take k xs) (let e : n + 1 ≡ suc n = omega arith in e) ∙ take-suc xs n x (slice_get_within xs n x at) ∙ ap (λ y. take n xs ++ y ∷ []) (get_or_from_slice_get xs n x x at)

pub one_rollup_series : (r : Rule) (columns : List Column) (n : ℕ) (c : Column) (s t : RollupState) → IsAt columns n c → KeepsCells s t → HasNext r c t → HasFirstRollupSeries r columns n s → HasFirstRollupSeries r columns (n + 1) (with_next t)
one_rollup_series r columns n c s t at keeps next h =
    let os : List (Option ℕ) = t.series_of_column in
    let first : List Column = take n columns in
    let series : HaveRollupSeries r t.grid.rollup_series first os = subst (HaveRollupSeries r t.grid.rollup_series first) (sym keeps.kept) (rollup_series_all_kept r s.grid.rollup_series t.grid.rollup_series first s.series_of_column keeps.made h.series) in
    let joined : joined_rollup_series os t.next ≡ os ++ next.0 ∷ [] = ap (joined_rollup_series os) next.1 in
    record {
      series = subst (λ (cs : List Column). HaveRollupSeries r t.grid.rollup_series cs (joined_rollup_series os t.next)) (sym (take-push columns n c at))
          (subst (HaveRollupSeries r t.grid.rollup_series (first ++ c ∷ [])) (sym joined) (rollup_series_push r t.grid.rollup_series first os c next.0 series next.2));
      many = ap (λ (xs : List (Option ℕ)). length xs) joined ∙ length_push os next.0 ∙ ap (λ (xs : List (Option ℕ)). length xs + 1) keeps.kept ∙ ap (λ k. k + 1) h.many;
      cells = keeps.cells ∙ h.cells;
    }

-- ---- cells

module _ (facts : List Fact) (r : Rule) (low : ℤ) (m : CellMap) (puts : PutsCells facts r low finmap.empty m) where
  made : (k : Cell) → finmap.get m k ≢ None → (low ≤ℤ k.index) × IsOfFacts facts r k
  made k some = ⊎_elim {C = (low ≤ℤ k.index) × IsOfFacts facts r k} (λ h. absurd (h (get-empty cell_cmp k))) (λ q. q) ((puts.there k).0 some)

  pub fresh_of : ((k : Cell) (p : CellParts) → finmap.get m k ≡ Some p → p.live ≡ total_of r k facts) → IsFresh r low facts m
  fresh_of live = record {
    there = λ f a rolled l none. (puts.there (cell_of r f)).1 (inr (l, (f, a, ap₂ (λ x y. x && y) rolled (same_cell-refl (cell_of r f))))) none;
    above = λ k l. elim (finmap.get m k) as (λ o. finmap.get m k ≡ o → o ≡ None) [
      | None ↦ λ e. refl
      | Some p ↦ λ e. absurd (let q = (made k (λ none. none-some p (sym none ∙ e))).0 in omega (arith, ints, l, q))
    ] refl;
    frozen = λ k p e. ap (λ o. (or_else no_parts o).frozen) (sym e) ∙ puts.frozen k ∙ ap (λ o. (or_else no_parts o).frozen) (get-empty cell_cmp k);
    live = live;
  }

  pub filled_of : AreFilled facts r low (finmap.keys m)
  filled_of = record { there = λ k. (λ a. made k (key_not m k a), λ q. key_there m k ((puts.there k).1 (inr q))); once = keys_once m }

-- ---- the whole

none_possible : (r : Rule) → HasPossibleCells r finmap.empty
none_possible r = λ k a. absurd (key_not finmap.empty k a (get-empty cell_cmp k))

pub rollup_made : (index : Indexed) (ss : List ColumnState) (us : List RollupState) (r : Rule) (low : ℤ) (s t : RollupState) → IsSoundContent index ss → HasFirstRollupSeries r index.columns (length index.columns) s
    → t ≡ with_grid_cells t.grid.cells s → FillsCells (r ∷ []) (low ∷ []) (content_of index ss (s ∷ [])) (content_of index ss (t ∷ [])) → IsRollupOf (content_of index ss us) r low t
rollup_made index ss us r low s t held first same fills =
    let facts : List Fact = facts_of (content_of index ss us).columns in
    let puts : PutsCells facts r low finmap.empty t.grid.cells = subst (λ (m : CellMap). PutsCells facts r low m t.grid.cells) first.cells fills.cells.0.2 in
    let series : HaveRollupSeries r s.grid.rollup_series index.columns s.series_of_column = subst (λ (cs : List Column). HaveRollupSeries r s.grid.rollup_series cs s.series_of_column) (take-length index.columns) first.series in
    record {
      series = subst (λ (x : RollupState). HaveRollupSeries r x.grid.rollup_series (map column_of (content_of index ss us).columns) x.series_of_column) (sym same) (subst (λ (cs : List Column). HaveRollupSeries r s.grid.rollup_series cs s.series_of_column) (sym (names_held index ss held.each)) series);
      fresh = fresh_of facts r low t.grid.cells puts fills.live.0;
      filled = filled_of facts r low t.grid.cells puts;
      possible = (fills.possible (subst (HasPossibleCells r) (sym first.cells) (none_possible r), tt)).0;
    }

-- ---- one rollup, created and filled

-- a list of one that ends in an item is this item alone
pub alone : {X : Type 0} (xs ys : List X) (x : X) → length xs ≡ 1 → xs ≡ ys ++ x ∷ [] → xs ≡ x ∷ []
alone xs [] x one e = e
alone {X} xs (y ∷ ys) x one e = absurd (let n : length xs ≡ length (y ∷ (ys ++ x ∷ [])) = ap (λ (zs : List X). length zs) e in let m = length_push ys x in omega (arith, n, m, one))

pub alone_wide : (n : ℕ) (s : RollupState) (us : List RollupState) → us ≡ s ∷ [] → length s.series_of_column ≡ n → AllByRecursion (λ (u : RollupState). length u.series_of_column ≡ n) us
alone_wide n s us e wide = subst (AllByRecursion (λ (u : RollupState). length u.series_of_column ≡ n)) (sym e) (wide, tt)

pub alone_made : (index : Indexed) (ss : List ColumnState) (us : List RollupState) (r : Rule) (low : ℤ) (s t : RollupState) (vs ws : List RollupState) → IsSoundContent index ss → HasFirstRollupSeries r index.columns (length index.columns) s
    → vs ≡ with_all_grid_cells (cells_of vs) (s ∷ []) → ws ≡ with_all_grid_cells (cells_of ws) vs → MakeAllPoints (r ∷ []) (low ∷ []) ss (s ∷ []) vs → KeepFrozen (cells_of vs) (cells_of ws) → AddAllPoints (r ∷ []) ss vs ws → ws ≡ t ∷ [] → IsRollupOf (content_of index ss us) r low t
alone_made index ss us r low s t vs ws held first one two make frozen add only =
    let series : HaveRollupSeries r s.grid.rollup_series index.columns s.series_of_column = subst (λ (cs : List Column). HaveRollupSeries r s.grid.rollup_series cs s.series_of_column) (take-length index.columns) first.series in
    let named : HaveRollupSeries r s.grid.rollup_series (map column_of (columns_in index ss)) s.series_of_column = subst (λ (cs : List Column). HaveRollupSeries r s.grid.rollup_series cs s.series_of_column) (sym (names_held index ss held.each)) series in
    let idle : AreIdle (cells_of (s ∷ [])) = (λ k p e. absurd (none-some p (sym (ap (λ (m : CellMap). finmap.get m k) first.cells ∙ get-empty cell_cmp k) ∙ e)), tt) in
    let fills : FillsCells (r ∷ []) (low ∷ []) (content_of index ss (s ∷ [])) (content_of index ss ws) = all_fill (r ∷ []) (low ∷ []) index ss (s ∷ []) vs ws held refl (named, tt) idle one two make frozen add in
    let same : t ≡ with_grid_cells t.grid.cells s =
    same_head t (with_grid_cells t.grid.cells s) [] [] (sym only ∙ grids_kept_then (s ∷ []) vs ws one two ∙ ap (λ (xs : List RollupState). with_all_grid_cells (cells_of xs) (s ∷ [])) only) in
    rollup_made index ss us r low s t held first same (subst (λ (xs : List RollupState). FillsCells (r ∷ []) (low ∷ []) (content_of index ss (s ∷ [])) (content_of index ss xs)) only fills)
