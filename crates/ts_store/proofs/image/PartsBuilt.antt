-- Columns and cells created from parts.
use Rattle.std.proofs.Common.{◌≡◌, ◌<◌, ◌≤◌, ◌^◌, ℕ, zero, suc, ℤ, List, [], ◌∷◌, ◌++◌, length, map, set, get_or, Some, None, Result, Ok, Err, OnOk, OnErr, refl, sym, ◌∙◌, ap, ap₂, subst, inr, ⊎_elim, arith, cond, true, false, option_map}
use Rattle.std.specs.FinMap as finmap
use Rattle.std.specs.FinMap.{same_map, get-insert, get-empty}
use Rattle.std.proofs.lemmas.List.{length_push, length-map, length-set, map-append}
use Rattle.std.proofs.lemmas.Option.{none-some, same_Some, get_or_from_slice_get, slice_get-get_or}
use Rattle.ts_core.specs.facts.Facts.{Text, Series, Column}
use Rattle.ts_core.specs.lists.Members.{Among}
use Rattle.ts_core.specs.lists.Numbered.{IsAt, Gains}
use Rattle.ts_core.specs.settings.Settings.{Rule}
use Rattle.ts_core.specs.aggregates.Aggregates.{Aggregate, empty_aggregate, merged_within}
use Rattle.ts_core.specs.aggregates.MergeLaws.{aggregate_laws}
use Rattle.ts_core.specs.store.Cells.{Cell, cell_cmp, same_cell}
use Rattle.ts_core.specs.lists.Changes.{changed, or_else}
use Rattle.ts_core.specs.store.StoreStates.{CellParts, column_of}
use Rattle.ts_core.specs.store.TwoParts.{in_frozen}
use Rattle.ts_core.specs.store.StoreData.{CellMap, no_parts}
use Rattle.ts_core.proofs.aggregates.AggregatesLemmas.{merged_within-fits}
use Rattle.ts_core.proofs.plans.PieceCells.{cells_total, exact_cells, same_cell-refl}
use Rattle.ts_cells.specs.CellChanges.{inserted_if_absent}
use Rattle.ts_cells.proofs.GridMoves.{get-changed, get-inserted_if_absent}
use Rattle.ts_raw.specs.Columns.{ColumnState}
use Rattle.ts_store.specs.image.BuildingParts.{IsIdle, AreIdle}
use Rattle.ts_raw.specs.Indexed.{Indexed, IsSoundIndex, no_series, column_in}
use Rattle.ts_store.specs.store.ColumnStates.{no_column, with_points, point_maps, columns_in, content_of, StoreContent, IsSoundContent, IsColumnFor}
use Rattle.ts_store.specs.rollup.Rollups.{RollupState, AreRollups, Extends, cells_of, with_grid_cells}
use Rattle.ts_store.proofs.store.ColumnsLemmas.{names_held, with_points-push}
use Rattle.ts_store.proofs.rollup.RollupsGrow.{rollups_kept, made_behind}

-- ---- a cell that was missing

-- it is created, and a part is frozen into it
pub cell_made : (m : CellMap) (q : Cell) (part : Aggregate) → part.count ≤ 2 ^ 62 → finmap.get m q ≡ None
    → changed (inserted_if_absent m q no_parts) q (in_frozen (merged_within part)) ≡ finmap.insert m q (record { frozen = part; live = empty_aggregate })
cell_made m q part few none =
    let n : CellMap = inserted_if_absent m q no_parts in
    let x : CellParts = record { frozen = part; live = empty_aggregate } in
    let fits : merged_within part empty_aggregate ≡ part = merged_within-fits part empty_aggregate (omega (arith, few)) ∙ aggregate_laws.unit part in
    let made : in_frozen (merged_within part) no_parts ≡ x = λ i. record { frozen = fits i; live = empty_aggregate } in
    same_map cells_total exact_cells (changed n q (in_frozen (merged_within part))) (finmap.insert m q x) (λ k.
    get-changed n q (in_frozen (merged_within part)) k
    ∙ elim (same_cell k q) as (λ b. same_cell k q ≡ b → cond b (option_map (in_frozen (merged_within part)) (finmap.get n q)) (finmap.get n k) ≡ cond b (Some x) (finmap.get m k)) [
      | true ↦ λ e.
          ap (option_map (in_frozen (merged_within part)))
          (get-inserted_if_absent m q no_parts q ∙ ap (λ b. cond b (Some (or_else no_parts (finmap.get m q))) (finmap.get m q)) (same_cell-refl q) ∙ ap (λ o. Some (or_else no_parts o)) none)
          ∙ ap Some made
      | false ↦ λ e. get-inserted_if_absent m q no_parts k ∙ ap (λ b. cond b (Some (or_else no_parts (finmap.get m q))) (finmap.get m k)) e
    ] refl
    ∙ sym (get-insert cells_total m q x k))

-- ---- the cells of one rule

pub cells-at : (ss : List RollupState) (n : ℕ) (s : RollupState) → n < length ss → s ≡ get_or ss n s → get_or (cells_of ss) n finmap.empty ≡ s.grid.cells
cells-at [] n s l e = absurd (omega arith)
cells-at (x ∷ ss) zero s l e = ap (λ (z : RollupState). z.grid.cells) (sym e)
cells-at (x ∷ ss) (suc n) s l e = cells-at ss n s (omega arith) e

-- more rollup series in one rollup
pub rollups-set : (rs : List Rule) (cs : List Column) (ss : List RollupState) (n : ℕ) (s t : RollupState) → s ≡ get_or ss n s → Extends s.grid.rollup_series t.grid.rollup_series → t.series_of_column ≡ s.series_of_column → AreRollups rs cs ss → AreRollups rs cs (set ss n t)
rollups-set [] cs [] n s t e more same h = tt
rollups-set (r ∷ rs) cs (x ∷ ss) zero s t e more same h =
    let one : AreRollups (r ∷ []) cs (with_grid_cells s.grid.cells t ∷ []) =
    rollups_kept (r ∷ []) cs (s ∷ []) (with_grid_cells s.grid.cells t ∷ []) (subst (λ (z : RollupState). AreRollups (r ∷ []) cs (z ∷ [])) (sym e) (h.0, tt)) (record { made = more; cells = refl; kept = same }, tt) in
    (one.0, h.1)
rollups-set (r ∷ rs) cs (x ∷ ss) (suc n) s t e more same h = (h.0, rollups-set rs cs ss n s t e more same h.1)
rollups-set _ cs _ n s t e more same h = absurd h

-- ---- a column after the others

-- the last one gets its points
pub set-last : (ss : List ColumnState) (n : ℕ) (s t : ColumnState) → n ≡ length ss → set (ss ++ s ∷ []) n t ≡ ss ++ t ∷ []
set-last [] zero s t e = refl
set-last (x ∷ ss) (suc n) s t e = ap (λ xs. x ∷ xs) (set-last ss n s t (omega (arith, e)))
set-last _ _ s t e = absurd (omega (arith, e))

-- ---- live parts stay empty

pub idle_new : (rs : List Rule) → AreIdle (map (λ (r : Rule). finmap.empty) rs)
idle_new [] = tt
idle_new (r ∷ rs) = (λ k p e. absurd (none-some p (sym (get-empty cell_cmp k) ∙ e)), idle_new rs)

pub idle-insert : (m : CellMap) (q : Cell) (x : CellParts) → x.live ≡ empty_aggregate → IsIdle m → IsIdle (finmap.insert m q x)
idle-insert m q x empty h = λ k p e.
    elim (same_cell k q) as (λ b. cond b (Some x) (finmap.get m k) ≡ Some p → p.live ≡ empty_aggregate) [
      | true ↦ λ s. ap (λ (y : CellParts). y.live) (sym (same_Some x p s)) ∙ empty
      | false ↦ λ s. h k p s
    ] (sym (get-insert cells_total m q x k) ∙ e)

pub idle-set : (ms : List CellMap) (n : ℕ) (m : CellMap) → IsIdle m → AreIdle ms → AreIdle (set ms n m)
idle-set [] n m one h = tt
idle-set (x ∷ ms) zero m one h = (one, h.1)
idle-set (x ∷ ms) (suc n) m one h = (h.0, idle-set ms n m one h.1)

pub idle-at : (ms : List CellMap) (n : ℕ) → AreIdle ms → IsIdle (get_or ms n finmap.empty)
idle-at [] n h = λ k p e. absurd (none-some p (sym (get-empty cell_cmp k) ∙ e))
idle-at (x ∷ ms) zero h = h.0
idle-at (x ∷ ms) (suc n) h = idle-at ms n h.1

-- ---- the content with a series or a column more

pub series_held : (index after : Indexed) (ss : List ColumnState) → IsSoundIndex after → after.columns ≡ index.columns → IsSoundContent index ss → IsSoundContent after ss
series_held index after ss sound same held = record { sound = sound; each = held.each ∙ sym (ap length same) }

pub series_added : (index after : Indexed) (ss : List ColumnState) (us : List RollupState) (s : Series) → (Among s index.series → ⊥) → Gains index.series after.series s → after.columns ≡ index.columns → content_of after ss us ≡ record { series = index.series ++ s ∷ []; columns = columns_in index ss; rollups = us }
series_added index after ss us s absent gains same =
    let series : after.series ≡ index.series ++ s ∷ [] = ⊎_elim {C = after.series ≡ index.series ++ s ∷ []} (λ old. absurd (absent old.0)) (λ new. new.1) gains in
    λ i. record { series = series i; columns = with_points (same i) (point_maps ss); rollups = us }

pub series_refused : (index after : Indexed) (ss : List ColumnState) (us : List RollupState) → after.series ≡ index.series → after.columns ≡ index.columns → content_of after ss us ≡ content_of index ss us
series_refused index after ss us series columns = λ i. record { series = series i; columns = with_points (columns i) (point_maps ss); rollups = us }

module _ (E : Type 0) (index after : Indexed) (ss ss' : List ColumnState) (series n : ℕ) (field : Text) (held : IsSoundContent index ss) (absent : Among (column_in index series field) index.columns → ⊥) where
  abbrev its_column : Column
  its_column = column_in index series field

  grows : IsColumnFor {E = E} its_column index ss after ss' (Ok n) → (after.columns ≡ index.columns ++ its_column ∷ []) × (ss' ≡ ss ++ no_column ∷ [])
  grows h = ⊎_elim {C = (after.columns ≡ index.columns ++ its_column ∷ []) × (ss' ≡ ss ++ no_column ∷ [])} (λ old. absurd (absent old.0)) (λ new. (new.1, new.2)) h.grown

  behind : IsColumnFor {E = E} its_column index ss after ss' (Ok n) → n ≡ length ss
  behind h = (made_behind index.columns after.columns its_column n absent (inr (absent, (grows h).0)) h.number).1 ∙ sym held.each

  pub column_held : (state : ColumnState) → IsColumnFor {E = E} its_column index ss after ss' (Ok n) → IsSoundContent after (set ss' n state)
  column_held state h = record {
    sound = h.sound held.sound;
    each =
        let a = length-set ss' n state in
        let b = ap length (grows h).1 ∙ length_push ss no_column in
        let d = ap length (grows h).0 ∙ length_push index.columns its_column in
        let e = held.each in
        omega (arith, a, b, d, e);
  }

  pub column_within : IsColumnFor {E = E} its_column index ss after ss' (Ok n) → n < length ss'
  column_within h = let b = ap length (grows h).1 ∙ length_push ss no_column in let e = behind h in omega (arith, b, e)

  pub column_added : (state : ColumnState) (s : Series) (ps : List (ℤ × ℤ)) → IsAt index.series series s → finmap.entries state.points ≡ ps → IsColumnFor {E = E} its_column index ss after ss' (Ok n)
      → columns_in after (set ss' n state) ≡ columns_in index ss ++ record { column = record { series = s; field = field }; points = ps } ∷ []
  column_added state s ps at points h =
      let states : set ss' n state ≡ ss ++ state ∷ [] = ap (λ (xs : List ColumnState). set xs n state) (grows h).1 ∙ set-last ss n no_column state (behind h) in
      let maps : point_maps (ss ++ state ∷ []) ≡ point_maps ss ++ state.points ∷ [] = map-append (λ (x : ColumnState). x.points) ss (state ∷ []) in
      let named : its_column ≡ record { series = s; field = field } = λ i. record { series = get_or_from_slice_get index.series series s no_series at i; field = field } in
      ap (λ (xs : List ColumnState). columns_in after xs) states
      ∙ ap (with_points after.columns) maps
      ∙ ap (λ (cs : List Column). with_points cs (point_maps ss ++ state.points ∷ [])) (grows h).0
      ∙ with_points-push index.columns (point_maps ss) its_column state.points (length-map ss (λ (x : ColumnState). x.points) ∙ held.each)
      ∙ ap₂ (λ (c : Column) (qs : List (ℤ × ℤ)). columns_in index ss ++ record { column = c; points = qs } ∷ []) named points

-- ---- results

pub ok_then : {T E : Type 0} {P Q : Type 0} (r : Result T E) → OnOk r P → (P → Q) → OnOk r Q
ok_then (Ok x) p f = f p
ok_then (Err e) p f = tt

pub err_then : {T E : Type 0} {P Q : Type 0} (r : Result T E) → OnErr r P → (P → Q) → OnErr r Q
err_then (Ok x) p f = tt
err_then (Err e) p f = f p

-- the column isn't among those of the index
pub its_absent : (index : Indexed) (ss : List ColumnState) (us : List RollupState) (held : StoreContent) (series : ℕ) (field : Text) → IsSoundContent index ss → content_of index ss us ≡ held → series < length held.series
    → ((s : Series) → IsAt held.series series s → Among (record { series = s; field = field }) (map column_of held.columns) → ⊥) → Among (column_in index series field) index.columns → ⊥
its_absent index ss us held series field kept is within absent among =
    let within' : series < length index.series = subst (λ (h : StoreContent). series < length h.series) (sym is) within in
    let at : IsAt index.series series (column_in index series field).series = slice_get-get_or index.series series no_series within' in
    subst (λ (h : StoreContent). ((s : Series) → IsAt h.series series s → Among (record { series = s; field = field }) (map column_of h.columns) → ⊥) → ⊥) is
    (λ none. none (column_in index series field).series at (subst (Among (column_in index series field)) (sym (names_held index ss kept.each)) among)) absent

-- no column is created
pub column_refused : (index after : Indexed) (ss ss' : List ColumnState) → IsSoundContent index ss → (after.columns ≡ index.columns) × (ss' ≡ ss) → IsSoundIndex after → IsSoundContent after ss'
column_refused index after ss ss' held same sound = record { sound = sound; each = ap length same.1 ∙ held.each ∙ sym (ap length same.0) }
