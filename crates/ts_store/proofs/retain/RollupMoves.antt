-- The effect of moving a column: on rollups, and on columns with their points.
use Rattle.std.proofs.Common.{rules, ◌≡◌, ℕ, zero, suc, ℤ, ◌<◌, true, false, cond, List, [], ◌∷◌, ◌++◌, length, filter, map, set, get_or, refl, sym, ◌∙◌, ap, ap₂, subst, inl, inr, arith, Some, None, is_some, true≢false, int_le, Equal}
use Rattle.std.specs.Ordering.{int_cmp}
use Rattle.std.specs.List.{slice_get}
use Rattle.std.specs.Cmp.{int_cmp_total}
use Rattle.std.specs.FinMap as finmap
use Rattle.std.specs.FinMap.{entries, entries_sorted, get-entries, get-retain_keys, int_cmp-IsAntisymmetric}
use Rattle.std.specs.FinMap.Entries.{same_entries, is_sorted-where_key, find-where_key, where_key}
use Rattle.std.proofs.lemmas.Option.{none-some, same_Some}
use Rattle.std.proofs.lemmas.List.{length-map, map-set, get_or_default}
use Rattle.ts_core.specs.lists.Members.{Among, AllDistinct}
use Rattle.ts_core.specs.facts.Facts.{Column, Fact}
use Rattle.ts_core.specs.settings.Settings.{Rule}
use Rattle.ts_core.specs.store.RawFacts.{same_column}
use Rattle.ts_core.specs.store.StoreStates.{ColumnPoints, column_of}
use Rattle.ts_core.specs.store.StoreData.{CellMap, IsLive}
use Rattle.ts_core.specs.lists.Beside.{OfEach}
use Rattle.ts_core.specs.moves.StoreMoves.{frozen_points, refolded_points, moved_cells, points_below, kept_points}
use Rattle.ts_core.proofs.store.StateLemmas.{same_column-refl, same_column-eq}
use Rattle.ts_raw.specs.Columns.{PointMap, ColumnState, points_from}
use Rattle.ts_raw.specs.Indexed.{Indexed}
use Rattle.ts_core.proofs.lists.NumberedLemmas.{at_among}
use Rattle.ts_store.specs.store.ColumnStates.{point_maps, with_points, columns_in, no_column, content_of, IsSoundContent}
use Rattle.ts_store.specs.rollup.Rollups.{RollupState, IsRollupSeriesOf, AreRollups, rollup_series_at, with_grid_cells, cells_of}
use Rattle.ts_store.specs.retain.RollupSteps.{with_all_grid_cells, cells_moved, FreezeFit, facts_left, content_moved}
use Rattle.ts_store.specs.retain.PointMoves.{MovesPoints}
use Rattle.ts_store.specs.write.PointPuts.{AreLiveOver}
use Rattle.ts_store.proofs.store.ColumnsLemmas.{names_held}
use Rattle.ts_store.proofs.write.StagedColumns.{points_at}
use Rattle.ts_store.specs.rollup.ChangedLists.{ChangesBeside}
use Rattle.ts_store.proofs.rollup.ChangedListsLemmas.{grids_kept}

-- ---- other cells under the same rollup series

pub cells_with : (ms : List CellMap) (ss : List RollupState) → length ms ≡ length ss → cells_of (with_all_grid_cells ms ss) ≡ ms
cells_with [] [] l = refl
cells_with (m ∷ ms) (s ∷ ss) l = ap (λ ns. m ∷ ns) (cells_with ms ss (omega arith))
cells_with _ _ l = absurd (omega arith)

pub rollups_with : (rs : List Rule) (cs : List Column) (ms : List CellMap) (ss : List RollupState) → AreRollups rs cs ss → AreRollups rs cs (with_all_grid_cells ms ss)
rollups_with rs cs [] ss a = a
rollups_with rs cs (m ∷ ms) [] a = a
rollups_with (r ∷ rs) cs (m ∷ ms) (s ∷ ss) a = (a.0, rollups_with rs cs ms ss a.1)
rollups_with _ cs _ _ a = absurd a

-- ---- a column is moved under a rule

-- a rule that has no rollup series for it
pub moved_passed : (r : Rule) (c : Column) (ps : List (ℤ × ℤ)) (facts : List Fact) (n : ℕ) (s : RollupState) → is_some (rollup_series_at s n) ≡ false → IsRollupSeriesOf r c s.grid.rollup_series (rollup_series_at s n) → s ≡ with_grid_cells (moved_cells r c ps facts s.grid.cells) s
moved_passed r c ps facts n s passed is =
    elim (rollup_series_at s n) as (λ o. is_some o ≡ false → IsRollupSeriesOf r c s.grid.rollup_series o → s ≡ with_grid_cells (moved_cells r c ps facts s.grid.cells) s) [
      | None ↦ λ k h. ap (λ (m : CellMap). with_grid_cells m s) (sym (ap (λ b. cond b (refolded_points r c ps facts (frozen_points r c ps s.grid.cells)) s.grid.cells) h))
      | Some l ↦ λ k h. absurd (true≢false k)
    ] passed is

-- ---- points at the mark and after it stay

pub entries_from : (m : PointMap) (mark : ℤ) → entries (points_from m mark) ≡ filter (λ (p : ℤ × ℤ). int_le mark p.0) (entries m)
entries_from m mark =
    let alike : (q x : ℤ) → int_cmp q x ≡ Equal → int_le mark x ≡ int_le mark q = λ q x e. ap (int_le mark) (sym (int_cmp-IsAntisymmetric q x e)) in
    same_entries int_cmp int_cmp_total int_cmp-IsAntisymmetric (entries (points_from m mark)) (where_key int_cmp (int_le mark) (entries m)) (entries_sorted (points_from m mark))
    (is_sorted-where_key int_cmp (int_le mark) (entries m) (entries_sorted m))
    (λ q. sym (get-entries (points_from m mark) q) ∙ get-retain_keys m (int_le mark) q (alike q) ∙ ap (λ o. cond (int_le mark q) o None) (get-entries m q) ∙ sym (find-where_key int_cmp (int_le mark) q (alike q) (entries m)))

others_kept : (c : Column) (mark : ℤ) (cs : List Column) (ms : List PointMap) → (Among c cs → ⊥) → map (kept_points c mark) (with_points cs ms) ≡ with_points cs ms
others_kept c mark (d ∷ cs) (m ∷ ms) a =
    let apart : same_column d c ≡ false = elim (same_column d c) as (λ b. same_column d c ≡ b → b ≡ false) [ true ↦ λ e. absurd (a (inl (sym (same_column-eq d c e)))) | false ↦ λ e. refl ] refl in
    let s : ColumnPoints = record { column = d; points = entries m } in
    ap₂ (λ (x : ColumnPoints) xs. x ∷ xs) (ap (λ b. cond b (record { column = d; points = filter (λ (p : ℤ × ℤ). int_le mark p.0) (entries m) }) s) apart) (others_kept c mark cs ms (λ k. a (inr k)))
others_kept c mark _ _ a = refl

-- of the column of a number only the points from the mark on are kept
pub columns_left : (c : Column) (mark : ℤ) (cs : List Column) (ms : List PointMap) (n : ℕ) → AllDistinct cs → length ms ≡ length cs → slice_get cs n ≡ Some c
    → with_points cs (set ms n (points_from (get_or ms n finmap.empty) mark)) ≡ map (kept_points c mark) (with_points cs ms)
columns_left c mark (b ∷ cs) (m ∷ ms) zero d l e =
    let same : b ≡ c = same_Some b c e in
    let is : same_column b c ≡ true = ap (λ x. same_column x c) same ∙ same_column-refl c in
    let s : ColumnPoints = record { column = b; points = entries m } in
    ap₂ (λ (x : ColumnPoints) xs. x ∷ xs)
    (ap (λ (ps : List (ℤ × ℤ)). record { column = b; points = ps }) (entries_from m mark) ∙ sym (ap (λ v. cond v (record { column = b; points = filter (λ (p : ℤ × ℤ). int_le mark p.0) (entries m) }) s) is))
    (sym (others_kept c mark cs ms (subst (λ (x : Column). Among x cs → ⊥) same d.0)))
columns_left c mark (b ∷ cs) (m ∷ ms) (suc n) d l e =
    let apart : same_column b c ≡ false =
    elim (same_column b c) as (λ v. same_column b c ≡ v → v ≡ false) [ true ↦ λ k. absurd (d.0 (subst (λ (x : Column). Among x cs) (sym (same_column-eq b c k)) (at_among cs n c e))) | false ↦ λ k. refl ] refl in
    let s : ColumnPoints = record { column = b; points = entries m } in
    ap₂ (λ (x : ColumnPoints) xs. x ∷ xs) (sym (ap (λ v. cond v (record { column = b; points = filter (λ (p : ℤ × ℤ). int_le mark p.0) (entries m) }) s) apart)) (columns_left c mark cs ms n d.1 (omega (arith, l)) e)
columns_left c mark _ _ n d l e = search rules

-- ---- under all rules

-- of the first rule, and of the others
pub first_over : (r : Rule) (rs : List Rule) (cs : List Column) (states : List ColumnState) (before : List ColumnPoints) (s : RollupState) (ss : List RollupState) → AreLiveOver (r ∷ rs) cs states before (s ∷ ss) → AreLiveOver (r ∷ []) cs states before (s ∷ [])
first_over r rs cs states before s ss over = record { each = over.each; once = over.once; rollups = (over.rollups.0, tt); live = (over.live.0, tt) }

pub others_over : (r : Rule) (rs : List Rule) (cs : List Column) (states : List ColumnState) (before : List ColumnPoints) (s : RollupState) (ss : List RollupState) → AreLiveOver (r ∷ rs) cs states before (s ∷ ss) → AreLiveOver rs cs states before ss
others_over r rs cs states before s ss over = record { each = over.each; once = over.once; rollups = over.rollups.1; live = over.live.1 }

-- its points are moved under a rule
abbrev pub MovesUnder : List ColumnState → ℕ → ℤ → Rule → RollupState → RollupState → Type 0
MovesUnder states n mark r s t = MovesPoints (r ∷ []) states n mark (s ∷ []) (t ∷ [])

pub all_moved_under : (states : List ColumnState) (n : ℕ) (mark : ℤ) (rs : List Rule) (ss ts : List RollupState) → ChangesBeside (MovesUnder states n mark) rs ss ts → MovesPoints rs states n mark ss ts
all_moved_under states n mark [] ss ts h = λ cs c may. h ∙ grids_kept ss
all_moved_under states n mark (r ∷ rs) [] ts h = λ cs c may. absurd may.over.rollups
all_moved_under states n mark (r ∷ rs) (s ∷ ss) [] h = absurd h
all_moved_under states n mark (r ∷ rs) (s ∷ ss) (t ∷ ts) h = λ cs c may.
    let before : List ColumnPoints = with_points cs (point_maps states) in
    ap₂ (λ (us vs : List RollupState). us ++ vs) (h.0 cs c (record { over = first_over r rs cs states before s ss may.over; at = may.at; fit = (may.fit.0, tt) }))
    (all_moved_under states n mark rs ss ts h.1 cs c (record { over = others_over r rs cs states before s ss may.over; at = may.at; fit = may.fit.1 }))

-- ---- a column of the content

-- the column of a number, with its points
with_points-at : (cs : List Column) (ms : List PointMap) (n : ℕ) (s : ColumnPoints) → slice_get (with_points cs ms) n ≡ Some s → (slice_get cs n ≡ Some s.column) × (s.points ≡ entries (get_or ms n finmap.empty))
with_points-at (c ∷ cs) (m ∷ ms) zero s e = let is = same_Some (record { column = c; points = entries m }) s e in (ap (λ (x : ColumnPoints). Some x.column) is, sym (ap (λ (x : ColumnPoints). x.points) is))
with_points-at (c ∷ cs) (m ∷ ms) (suc n) s e = with_points-at cs ms n s e
with_points-at _ _ n s e = absurd (none-some s e)

pub held_moves : (index : Indexed) (ss : List ColumnState) (us vs : List RollupState) (rs : List Rule) (mark : ℤ) (n : ℕ) (x y : ColumnState) → IsSoundContent index ss → n < length ss → x ≡ get_or ss n x → y.points ≡ points_from x.points mark
    → AreRollups rs (map column_of (columns_in index ss)) us → OfEach (IsLive (columns_in index ss)) rs (cells_of us)
    → MovesPoints rs ss n mark us vs
    → (s : ColumnPoints) → slice_get (columns_in index ss) n ≡ Some s → FreezeFit rs s.column (points_below mark s.points) (cells_of us) → content_of index (set ss n y) vs ≡ content_moved rs s mark (content_of index ss us)
held_moves index ss us vs rs mark n x y held within is left a live moved s at fit =
    let cs : List Column = index.columns in
    let ms : List PointMap = point_maps ss in
    let each : length ms ≡ length cs = length-map ss (λ (t : ColumnState). t.points) ∙ held.each in
    let index_is = with_points-at cs ms n s at in
    let col : get_or ss n no_column ≡ x = sym (get_or_default ss n x no_column within) ∙ sym is in
    let its : get_or ms n finmap.empty ≡ x.points = points_at ss n ∙ ap (λ (t : ColumnState). t.points) col in
    let points : s.points ≡ entries (get_or ss n no_column).points = index_is.1 ∙ ap entries (points_at ss n) in
    let rest : point_maps (set ss n y) ≡ set ms n (points_from (get_or ms n finmap.empty) mark) =
    map-set (λ (t : ColumnState). t.points) ss n y ∙ ap (set ms n) (left ∙ ap (λ (m : PointMap). points_from m mark) (sym its)) in
    let columns : columns_in index (set ss n y) ≡ map (kept_points s.column mark) (columns_in index ss) = ap (with_points cs) rest ∙ columns_left s.column mark cs ms n held.sound.columns_once each index_is.0 in
    let have : AreRollups rs cs us = subst (λ (names : List Column). AreRollups rs names us) (names_held index ss held.each) a in
    let rollups : vs ≡ with_all_grid_cells (cells_moved rs s.column (points_below mark s.points) (facts_left mark s.column cs ss) (cells_of us)) us =
    moved cs s.column (record {
      over = record { each = held.each; once = held.sound.columns_once; rollups = have; live = live };
      at = index_is.0;
      fit = subst (λ (ps : List (ℤ × ℤ)). FreezeFit rs s.column (points_below mark ps) (cells_of us)) points fit;
    })
    ∙ ap (λ (ps : List (ℤ × ℤ)). with_all_grid_cells (cells_moved rs s.column (points_below mark ps) (facts_left mark s.column cs ss) (cells_of us)) us) (sym points) in
    λ i. record { series = index.series; columns = columns i; rollups = rollups i }
