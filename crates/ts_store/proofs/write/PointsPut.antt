-- A staged point that is committed to its column: the value that it replaces, and the resulting cells of all rules.
use Rattle.std.proofs.Common.{rules, ◌≡◌, ℕ, zero, suc, ℤ, ◌+◌, ◌<◌, ◌≤◌, ◌^◌, true, false, true≢false, cond, List, [], ◌∷◌, ◌++◌, length, map, set, get_or, Option, Some, None, refl, sym, ◌∙◌, ap, ap₂, subst, ◌⊎◌, inl, inr, ⊎_elim, arith, slice_get, IsSome, IfSome, drop, filter, option_map}
use Rattle.std.specs.List.{AllByRecursion}
use Rattle.std.specs.Option.{is_some}
use Rattle.std.specs.FinMap as finmap
use Rattle.std.specs.FinMap.{entries, entries_sorted, get-entries, len-insert, int_cmp-IsAntisymmetric}
use Rattle.std.specs.Cmp.{int_cmp_total}
use Rattle.std.proofs.lemmas.List.{length-map, length-set, get_or_default}
use Rattle.std.proofs.lemmas.List.Sums.{sum_by-cons}
use Rattle.std.proofs.lemmas.Option.{none-some, same_Some, get_or_from_slice_get}
use Rattle.ts_core.specs.lists.Members.{Among, AllDistinct}
use Rattle.ts_core.specs.facts.Facts.{Column, Fact, Id, id_of, same_id}
use Rattle.ts_core.specs.settings.Settings.{Rule}
use Rattle.ts_core.specs.store.StoreStates.{ColumnPoints, facts_of}
use Rattle.ts_core.specs.store.StoreData.{CellMap, RuleData, IsLive}
use Rattle.ts_core.specs.moves.StoreMoves.{PutsFact, refolded, put_cell, put_cells, PutsFacts}
use Rattle.ts_core.proofs.facts.Ids.{same_id-eq}
use Rattle.ts_core.proofs.moves.LivesKept.{live_put}
use Rattle.ts_core.specs.lists.Beside.{OfEach}
use Rattle.ts_core.proofs.lists.BesideLemmas.{OfEach-weaker, OfEach-beside}
use Rattle.ts_store.specs.store.RuleLists.{rules_with}
use Rattle.ts_store.proofs.store.RuleListLemmas.{with_changed}
use Rattle.ts_core.proofs.lists.MembersLemmas.{Among-append, Among-left, Among-right}
use Rattle.ts_core.proofs.lists.NumberedLemmas.{at_among}
use Rattle.ts_core.proofs.lists.Sorted.{found_among, among_found}
use Rattle.ts_core.specs.store.Cells.{cell_of, is_rolled, total_of, is_in_cell}
use Rattle.ts_line.specs.Parts.{LinePart, Parts, fact_of}
use Rattle.ts_raw.specs.Columns.{PointMap, ColumnState}
use Rattle.ts_store.specs.store.ColumnStates.{facts_in, facts_of_columns, with_points, point_maps, no_column, with_staged, committed, all_committed, AreReady, IsFactStaged, AreStaged}
use Rattle.ts_store.specs.write.CellsCreated.{KeepsRollupSeries}
use Rattle.ts_store.specs.write.LivePuts.{WasThere, IsLivePut, AreOfFields}
use Rattle.ts_store.specs.write.PointPuts.{AreLiveOver, cells_put, PutsPoint, ArePointsStaged}
use Rattle.ts_store.specs.read.PointsRead.{number_of_points}
use Rattle.ts_store.specs.rollup.ChangedLists.{ChangesBeside}
use Rattle.ts_store.specs.rollup.Rollups.{RollupState, IsRollupSeriesOf, AreRollups, rollup_series_at, with_grid_cells, cells_of, rollup_series_under, added_in, live_part}
use Rattle.ts_store.specs.retain.RollupSteps.{with_all_grid_cells}
use Rattle.ts_store.proofs.write.StagedColumns.{points_at, one_committed, staged_others, same_names, ready_others, committed_is}
use Rattle.ts_store.proofs.store.ColumnsLemmas.{in_column, column_among, to_column, facts-distinct, facts-length}
use Rattle.ts_store.proofs.retain.RollupMoves.{rollups_with, first_over, others_over}
use Rattle.ts_store.proofs.rollup.RollupsGrow.{rollup_series-length}
use Rattle.ts_store.proofs.write.CellsCreatedLemmas.{rollup_series_known}
use Rattle.ts_core.specs.store.Marks.{index_of}
use Rattle.ts_core.specs.aggregates.Aggregates.{Aggregate, aggregate_of_one, merged, IsSound, merged_within}
use Rattle.ts_core.specs.aggregates.MergeLaws.{aggregate_laws}
use Rattle.ts_core.specs.aggregates.Remainders.{IsOnlyRest}
use Rattle.ts_core.specs.lists.Changes.{changed, with_change}
use Rattle.ts_core.specs.store.TwoParts.{in_live, with_live}
use Rattle.ts_core.proofs.store.Cuts.{one_fact}
use Rattle.ts_core.proofs.aggregates.Folds.{fold-count}
use Rattle.ts_core.proofs.lists.ListSteps.{length-filter}
use Rattle.ts_core.proofs.moves.PutCells.{add_puts, correct_puts}
use Rattle.ts_cells.specs.Grids.{no_rollup_series, cell_at, cell_in}
use Rattle.ts_store.specs.rollup.LivePoints.{rollup_series_total}
use Rattle.ts_store.proofs.rollup.RollupSeriesPoints.{cell_total}

-- ---- a fact is put into its cell: it is added, or the live part is corrected

-- replaces the live part of a cell
abbrev pub corrected_in : RollupState → ℕ → ℤ → Aggregate → CellMap
corrected_in s l index live = changed s.grid.cells (cell_in s.grid.rollup_series index l) (with_live live)

-- ---- the cell of a fact under a rule

module _ (r : Rule) (cs : List Column) (states : List ColumnState) (before : List ColumnPoints) (s : RollupState) (column : ℕ) (f : Fact) (old : Option ℤ) (over : AreLiveOver (r ∷ []) cs states before (s ∷ [])) (put : IsLivePut cs states before column f old) where
  abbrev columns_after : List ColumnPoints
  columns_after = with_points cs (point_maps states)

  rollup_series_is : IsRollupSeriesOf r f.column s.grid.rollup_series (rollup_series_at s column)
  rollup_series_is = rollup_series_known r s.grid.rollup_series cs s.series_of_column column f.column over.rollups.0 put.at

  -- a rule that doesn't roll it up
  pub put_passed : rollup_series_at s column ≡ None → s.grid.cells ≡ put_cell r f (facts_of columns_after) s.grid.cells
  put_passed e =
      let passed : is_rolled r f ≡ false = subst (IsRollupSeriesOf r f.column s.grid.rollup_series) e rollup_series_is in
      sym (ap (λ b. cond b (refolded r (cell_of r f) (facts_of columns_after) s.grid.cells) s.grid.cells) passed)

  module _ (l : ℕ) (at : rollup_series_at s column ≡ Some l) (index : ℤ) (at_index : index ≡ index_of r f.time) where
    is_its : IsRollupSeriesOf r f.column s.grid.rollup_series (Some l)
    is_its = subst (IsRollupSeriesOf r f.column s.grid.rollup_series) at rollup_series_is

    key : cell_in s.grid.rollup_series index l ≡ cell_of r f
    key = ap (λ i. cell_in s.grid.rollup_series i l) at_index ∙ ap (cell_at (index_of r f.time)) (get_or_from_slice_get s.grid.rollup_series l (rollup_series_under r f.column) no_rollup_series is_its.1)

    put_is : put_cell r f (facts_of columns_after) s.grid.cells ≡ refolded r (cell_of r f) (facts_of columns_after) s.grid.cells
    put_is = ap (λ b. cond b (refolded r (cell_of r f) (facts_of columns_after) s.grid.cells) s.grid.cells) is_its.0

    -- of a new id
    pub put_added : (part : Aggregate) → old ≡ None → part ≡ aggregate_of_one f.time f.value → added_in s l index part ≡ put_cell r f (facts_of columns_after) s.grid.cells
    put_added part none one =
        ap (λ k. changed s.grid.cells k (in_live (merged_within part))) key
        ∙ ap (λ a. changed s.grid.cells (cell_of r f) (in_live (merged_within a))) one
        ∙ add_puts before columns_after f put.distinct put.put r s.grid.cells over.live.0 is_its.0 (subst (WasThere before f) none put.was)
        (λ p e.
        let inside : List Fact = filter (is_in_cell r (cell_of r f)) (facts_of before) in
        let count : p.live.count ≡ length inside = ap (λ (a : Aggregate). a.count) (over.live.0 (cell_of r f) p e) ∙ fold-count aggregate_laws one_fact (λ g. refl) inside in
        let fewer = length-filter (is_in_cell r (cell_of r f)) (facts_of before) in
        let few = put.few in
        omega (arith, count, fewer, few))

    -- the cell is missing
    pub put_missing : option_map live_part (finmap.get s.grid.cells (cell_in s.grid.rollup_series index l)) ≡ None → s.grid.cells ≡ put_cell r f (facts_of columns_after) s.grid.cells
    put_missing none =
        let gone : option_map live_part (finmap.get s.grid.cells (cell_of r f)) ≡ None = ap (λ k. option_map live_part (finmap.get s.grid.cells k)) (sym key) ∙ none in
        sym (put_is ∙ elim (finmap.get s.grid.cells (cell_of r f)) as (λ o. option_map live_part o ≡ None → with_change s.grid.cells (cell_of r f) (with_live (total_of r (cell_of r f) (facts_of columns_after))) o ≡ s.grid.cells) [
          | None ↦ λ e. refl
          | Some p ↦ λ e. absurd (none-some p.live (sym e))
        ] gone)

    -- instead of a value, where the rest is determined
    pub put_corrected : (v : ℤ) (a rest new : Aggregate) → old ≡ Some v → option_map live_part (finmap.get s.grid.cells (cell_in s.grid.rollup_series index l)) ≡ Some a → IsOnlyRest IsSound merged a (aggregate_of_one f.time v) rest
        → new ≡ merged (aggregate_of_one f.time f.value) rest → corrected_in s l index new ≡ put_cell r f (facts_of columns_after) s.grid.cells
    put_corrected v a rest new was there determined made =
        let there' : option_map live_part (finmap.get s.grid.cells (cell_of r f)) ≡ Some a = ap (λ k. option_map live_part (finmap.get s.grid.cells k)) (sym key) ∙ there in
        let whole : a ≡ total_of r (cell_of r f) (facts_of before) =
        elim (finmap.get s.grid.cells (cell_of r f)) as (λ o. finmap.get s.grid.cells (cell_of r f) ≡ o → option_map live_part o ≡ Some a → a ≡ total_of r (cell_of r f) (facts_of before)) [
          | None ↦ λ g e. absurd (none-some a e)
          | Some p ↦ λ g e. sym (same_Some p.live a e) ∙ over.live.0 (cell_of r f) p g
        ] refl there' in
        ap (λ k. changed s.grid.cells k (with_live new)) key
        ∙ ap (λ x. changed s.grid.cells (cell_of r f) (with_live x)) made
        ∙ correct_puts before columns_after f put.distinct put.put r s.grid.cells over.live.0 is_its.0 (record { column = f.column; time = f.time; value = v }) (subst (WasThere before f) was put.was) rest
        (subst (λ x. IsOnlyRest IsSound merged x (aggregate_of_one f.time v) rest) whole determined)

    -- and where it isn't, folded anew
    pub put_folded : (new : Aggregate) → AllDistinct s.grid.rollup_series → new ≡ rollup_series_total r s states l index → corrected_in s l index new ≡ put_cell r f (facts_of columns_after) s.grid.cells
    put_folded new once made =
        let total : new ≡ total_of r (cell_of r f) (facts_of columns_after) = made ∙ ap (rollup_series_total r s states l) at_index ∙ cell_total r s (cell_of r f) l cs states once is_its.1 over.each over.rollups.0 in
        ap (λ k. changed s.grid.cells k (with_live new)) key
        ∙ ap (λ x. changed s.grid.cells (cell_of r f) (with_live x)) total
        ∙ sym put_is

-- ---- what was there

-- a fact that is there is found in its column
fact_found : (cs : List Column) (ms : List PointMap) (n : ℕ) (g : Fact) → AllDistinct cs → slice_get cs n ≡ Some g.column → Among g (facts_of_columns cs ms) → finmap.get (get_or ms n finmap.empty) g.time ≡ Some g.value
fact_found (c ∷ cs) (m ∷ ms) zero g d at a =
    ⊎_elim {C = finmap.get m g.time ≡ Some g.value}
    (λ h. get-entries m g.time ∙ found_among int_cmp_total (entries m) (entries_sorted m) (g.time, g.value) (in_column c (entries m) g h).1)
    (λ h. absurd (d.0 (subst (λ x. Among x cs) (sym (same_Some c g.column at)) (column_among cs ms g h))))
    (Among-append g (facts_in c m) (facts_of_columns cs ms) a)
fact_found (c ∷ cs) (m ∷ ms) (suc n) g d at a =
    ⊎_elim {C = finmap.get (get_or ms n finmap.empty) g.time ≡ Some g.value}
    (λ h. absurd (d.0 (subst (λ x. Among x cs) (in_column c (entries m) g h).0 (at_among cs n g.column at))))
    (λ h. fact_found cs ms n g d.1 at h)
    (Among-append g (facts_in c m) (facts_of_columns cs ms) a)
fact_found _ _ n g d at a = absurd a

-- and what is found is there
found_there : (cs : List Column) (ms : List PointMap) (n : ℕ) (g : Fact) → length ms ≡ length cs → slice_get cs n ≡ Some g.column → finmap.get (get_or ms n finmap.empty) g.time ≡ Some g.value → Among g (facts_of_columns cs ms)
found_there (c ∷ cs) (m ∷ ms) zero g l at h =
    Among-left g (facts_in c m) (facts_of_columns cs ms)
    (subst (λ x. Among (record { column = x; time = g.time; value = g.value }) (facts_in c m)) (same_Some c g.column at)
    (to_column c (entries m) (g.time, g.value) (among_found int_cmp-IsAntisymmetric (entries m) g.time g.value (sym (get-entries m g.time) ∙ h))))
found_there (c ∷ cs) (m ∷ ms) (suc n) g l at h = Among-right g (facts_in c m) (facts_of_columns cs ms) (found_there cs ms n g (omega (arith, l)) at h)
found_there _ _ n g l at h = search rules

pub was_there : (cs : List Column) (ms : List PointMap) (n : ℕ) (f : Fact) (old : Option ℤ) → AllDistinct cs → length ms ≡ length cs → slice_get cs n ≡ Some f.column → old ≡ finmap.get (get_or ms n finmap.empty) f.time → WasThere (with_points cs ms) f old
was_there cs ms n f None d l at e = λ g a.
    elim (same_id (id_of g) (id_of f)) as (λ b. same_id (id_of g) (id_of f) ≡ b → b ≡ false) [
      | true ↦ λ q.
          let same : id_of g ≡ id_of f = same_id-eq (id_of g) (id_of f) q in
          let found = fact_found cs ms n g d (at ∙ ap (λ (i : Id). Some i.column) (sym same)) a in
          absurd (none-some g.value (e ∙ ap (λ (i : Id). finmap.get (get_or ms n finmap.empty) i.time) (sym same) ∙ found))
      | false ↦ λ q. refl
    ] refl
was_there cs ms n f (Some v) d l at e = record {
  there = found_there cs ms n (record { column = f.column; time = f.time; value = v }) l at (sym e);
  same = refl;
  only = λ x a q.
      let same : id_of x ≡ id_of f = same_id-eq (id_of x) (id_of f) q in
      let found = fact_found cs ms n x d (at ∙ ap (λ (i : Id). Some i.column) (sym same)) a in
      let value : v ≡ x.value = same_Some v x.value (e ∙ ap (λ (i : Id). finmap.get (get_or ms n finmap.empty) i.time) (sym same) ∙ found) in
      λ i. record { column = (same i).column; time = (same i).time; value = sym value i };
}

-- ---- how many points there are

staged_more : (m : PointMap) (o : Option (ℤ × ℤ)) → finmap.len (with_staged m o) ≤ finmap.len m + 1
staged_more m None = omega arith
staged_more m (Some p) =
    let e = len-insert int_cmp_total m p.0 p.1 in
    let most : cond (finmap.contains_key m p.0) (finmap.len m) (finmap.len m + 1) ≤ finmap.len m + 1 = elim (finmap.contains_key m p.0) as (λ b. cond b (finmap.len m) (finmap.len m + 1) ≤ finmap.len m + 1) [ true ↦ omega arith | false ↦ omega arith ] in
    omega (arith, e, most)

pub committed-more : (ss : List ColumnState) (n : ℕ) → number_of_points (set ss n (committed (get_or ss n no_column))) ≤ number_of_points ss + 1
committed-more [] n = omega arith
committed-more (s ∷ ss) zero =
    let a = sum_by-cons (λ (x : ColumnState). finmap.len x.points) s ss in
    let b = sum_by-cons (λ (x : ColumnState). finmap.len x.points) (committed s) ss in
    let most = staged_more s.points s.staged in
    omega (arith, a, b, most)
committed-more (s ∷ ss) (suc n) =
    let a = sum_by-cons (λ (x : ColumnState). finmap.len x.points) s ss in
    let b = sum_by-cons (λ (x : ColumnState). finmap.len x.points) s (set ss n (committed (get_or ss n no_column))) in
    let most = committed-more ss n in
    omega (arith, a, b, most)

-- ---- one is put in

module _ (ss : List ColumnState) (n m : ℕ) (x : ColumnState) (ready : AreReady ss (n ∷ [])) (same : m ≡ n) (is : x ≡ get_or ss m x) where
  its_column : x ≡ get_or ss n no_column
  its_column = is ∙ ap (λ k. get_or ss k x) same ∙ get_or_default ss n x no_column ready.0

  pub ready_staged : IsSome x.staged
  ready_staged = subst (λ (t : ColumnState). IsSome t.staged) (sym its_column) ready.1

  pub point_found : (o : Option ℤ) (t u : ℤ) → t ≡ u → o ≡ finmap.get x.points t → o ≡ finmap.get (get_or ss n no_column).points u
  point_found o t u e h = h ∙ (λ i. finmap.get (its_column i).points (e i))

  pub now_committed : (t : ColumnState) → IfSome x.staged (λ (p : ℤ × ℤ). t.points ≡ finmap.insert x.points p.0 p.1) → t.staged ≡ None → set ss m t ≡ set ss n (committed (get_or ss n no_column))
  now_committed t put none = ap₂ (λ k (u : ColumnState). set ss k u) same (committed_is x t put ready_staged none ∙ ap (λ (u : ColumnState). committed u) its_column)

module _ (cs : List Column) (ss : List ColumnState) (n : ℕ) (f : Fact) (once : AllDistinct cs) (each : length ss ≡ length cs) (staged : IsFactStaged cs ss n f) where
  abbrev next : List ColumnState
  next = set ss n (committed (get_or ss n no_column))

  pub puts_one : PutsFact (with_points cs (point_maps ss)) (with_points cs (point_maps next)) f
  puts_one = (same_names cs ss n (committed (get_or ss n no_column)) each, one_committed cs ss n f once each staged.0 staged.1)

  pub is_put : (old : Option ℤ) → number_of_points ss + 1 ≤ 2 ^ 62 → old ≡ finmap.get (get_or ss n no_column).points f.time → IsLivePut cs next (with_points cs (point_maps ss)) n f old
  is_put old few is = record {
    at = staged.0;
    distinct = facts-distinct cs (point_maps ss) once;
    put = puts_one;
    few = let e = facts-length cs ss each in omega (arith, e, few);
    was = was_there cs (point_maps ss) n f old once (length-map ss (λ (s : ColumnState). s.points) ∙ each) staged.0 (is ∙ ap (λ (m : PointMap). finmap.get m f.time) (sym (points_at ss n)));
  }

-- ---- under each rule

-- each has an entry for the column
pub wide_first : (n : ℕ) (ss : List RollupState) (m : ℕ) → m < n → AllByRecursion (λ (s : RollupState). length s.series_of_column ≡ n) ss → AllByRecursion (λ (s : RollupState). m < length s.series_of_column) ss
wide_first n [] m l h = tt
wide_first n (s ∷ ss) m l h = (subst (λ k. m < k) (sym h.0) l, wide_first n ss m l h.1)

-- a column without a rollup series
pub without_rollup_series : (o : Option ℕ) → is_some o ≡ false → o ≡ None
without_rollup_series None e = refl
without_rollup_series (Some l) e = absurd (true≢false e)

-- where no rule rolls the column up
pub unrolled_put : (rs : List Rule) (cs : List Column) (ss : List RollupState) (n : ℕ) (f : Fact) (facts : List Fact) → AreRollups rs cs ss → slice_get cs n ≡ Some f.column → AllByRecursion (λ (s : RollupState). rollup_series_at s n ≡ None) ss
    → cells_of ss ≡ cells_put rs f facts (cells_of ss)
unrolled_put [] cs ss n f facts a at none = refl
unrolled_put (r ∷ rs) cs [] n f facts a at none = refl
unrolled_put (r ∷ rs) cs (s ∷ ss) n f facts a at none =
    let passed : is_rolled r f ≡ false = subst (IsRollupSeriesOf r f.column s.grid.rollup_series) none.0 (rollup_series_known r s.grid.rollup_series cs s.series_of_column n f.column a.0 at) in
    ap₂ (λ (m : CellMap) (ms : List CellMap). m ∷ ms) (sym (ap (λ b. cond b (refolded r (cell_of r f) facts s.grid.cells) s.grid.cells) passed)) (unrolled_put rs cs ss n f facts a.1 at none.1)

module _ (states : List ColumnState) (column : ℕ) (time value : ℤ) (old : Option ℤ) where
  -- the rollup of a rule changes
  abbrev pub PutsUnder : Rule → RollupState → RollupState → Type 0
  PutsUnder r s t = KeepsRollupSeries s t × PutsPoint (r ∷ []) states column time value old (s ∷ []) (t ∷ [])

  -- the rollups of all rules do
  pub all_put : (rs : List Rule) (ss ts : List RollupState) → ChangesBeside PutsUnder rs ss ts → PutsPoint rs states column time value old ss ts
  all_put (r ∷ rs) (s ∷ ss) [] h = absurd h
  all_put (r ∷ rs) (s ∷ ss) (t ∷ ts) h = λ cs before f over put.
      ap₂ (λ (ms ns : List CellMap). ms ++ ns) (h.0.1 cs before f (first_over r rs cs states before s ss over) put) (all_put rs ss ts h.1 cs before f (others_over r rs cs states before s ss over) put)
  all_put _ _ _ h = λ cs before f over put. ap cells_of h

pub grids_kept_then : (ss ts us : List RollupState) → ts ≡ with_all_grid_cells (cells_of ts) ss → us ≡ with_all_grid_cells (cells_of us) ts → us ≡ with_all_grid_cells (cells_of us) ss
grids_kept_then [] [] us e f = f
grids_kept_then (s ∷ ss) (t ∷ ts) (u ∷ us) e f =
    let head : (xs : List RollupState) → RollupState = λ xs. get_or xs 0 s in
    let one : t ≡ with_grid_cells t.grid.cells s = ap head e in
    let two : u ≡ with_grid_cells u.grid.cells t = ap head f in
    ap₂ (λ (x : RollupState) (xs : List RollupState). x ∷ xs) (two ∙ ap (with_grid_cells u.grid.cells) one) (grids_kept_then ss ts us (ap (λ (xs : List RollupState). drop 1 xs) e) (ap (λ (xs : List RollupState). drop 1 xs) f))
grids_kept_then _ _ _ e f = cc

wide_with : (n : ℕ) (ms : List CellMap) (ss : List RollupState) → AllByRecursion (λ (s : RollupState). length s.series_of_column ≡ n) ss → AllByRecursion (λ (s : RollupState). length s.series_of_column ≡ n) (with_all_grid_cells ms ss)
wide_with n (m ∷ ms) (s ∷ ss) all = (all.0, wide_with n ms ss all.1)
wide_with n _ ss all = all

-- each has as many columns as before
pub wide_still : (n : ℕ) (ss ts : List RollupState) → ts ≡ with_all_grid_cells (cells_of ts) ss → AllByRecursion (λ (s : RollupState). length s.series_of_column ≡ n) ss → AllByRecursion (λ (s : RollupState). length s.series_of_column ≡ n) ts
wide_still n ss ts e all = subst (AllByRecursion (λ (s : RollupState). length s.series_of_column ≡ n)) (sym e) (wide_with n (cells_of ts) ss all)

-- ---- one after another

-- a fact of this time and value is staged in the column with this index
pub record IsPointStaged (cs : List Column) (states : List ColumnState) (column : ℕ) (time value : ℤ) (f : Fact) : Type 0 where
  pub same_time : f.time ≡ time
  pub same_value : f.value ≡ value
  pub staged : IsFactStaged cs states column f

-- the fact that is staged is put into its cells
abbrev pub CommitsPoint : List Rule → ℕ → ℤ → ℤ → List ColumnState → List RollupState → List ColumnState → List RollupState → Type 0
CommitsPoint rules column time value states us states' us' =
    (cs : List Column) (f : Fact) → AreLiveOver rules cs states (with_points cs (point_maps states)) us → IsPointStaged cs states column time value f
    → cells_of us' ≡ cells_put rules f (facts_of (with_points cs (point_maps states'))) (cells_of us)

pub puts_more : (rs : List Rule) (lows : List ℤ) (cs : List Column) (ss ss' : List ColumnState) (n : ℕ) (f : Fact) (fs : List Fact) (after : List ColumnPoints) (ms ms' : List CellMap) (ends : List RuleData) → AllDistinct cs → length ss ≡ length cs → IsFactStaged cs ss n f
    → ss' ≡ set ss n (committed (get_or ss n no_column)) → ms' ≡ cells_put rs f (facts_of (with_points cs (point_maps ss'))) ms → OfEach (IsLive (with_points cs (point_maps ss))) rs ms
    → (OfEach (IsLive (with_points cs (point_maps ss'))) rs ms' → PutsFacts (with_points cs (point_maps ss')) (rules_with rs lows ms') after ends fs)
    → PutsFacts (with_points cs (point_maps ss)) (rules_with rs lows ms) after ends (f ∷ fs)
puts_more rs lows cs ss ss' n f fs after ms ms' ends once each staged is made live rest =
    let before : List ColumnPoints = with_points cs (point_maps ss) in
    let between : List ColumnPoints = with_points cs (point_maps ss') in
    let put : PutsFact before between f = subst (λ (xs : List ColumnState). PutsFact before (with_points cs (point_maps xs)) f) (sym is) (puts_one cs ss n f once each staged) in
    let puts : Rule → CellMap → CellMap = λ r. put_cell r f (facts_of between) in
    let lives : OfEach (IsLive between) rs ms' =
    subst (OfEach (IsLive between) rs) (sym made) (OfEach-beside (IsLive before) (IsLive between) puts (live_put before between f (facts-distinct cs (point_maps ss) once) put) rs ms live) in
    let cells : rules_with rs lows ms' ≡ put_cells f (facts_of between) (rules_with rs lows ms) = ap (rules_with rs lows) made ∙ sym (with_changed puts rs lows ms) in
    (between, put, subst (λ (xs : List RuleData). PutsFacts between xs after ends fs) cells (rest lives))

-- no rule rolls the column up
pub commits_alone : (rs : List Rule) (n : ℕ) (time value : ℤ) (ss ss' : List ColumnState) (us : List RollupState) → AllByRecursion (λ (s : RollupState). rollup_series_at s n ≡ None) us → CommitsPoint rs n time value ss us ss' us
commits_alone rs n time value ss ss' us none = λ cs f over put. unrolled_put rs cs us n f (facts_of (with_points cs (point_maps ss'))) over.rollups put.staged.0 none

-- a rule does, and the cells are updated
pub commits_rolled : (rs : List Rule) (n : ℕ) (time value : ℤ) (old : Option ℤ) (ss ss' : List ColumnState) (us us' : List RollupState) → ss' ≡ set ss n (committed (get_or ss n no_column)) → number_of_points ss + 1 ≤ 2 ^ 62
    → old ≡ finmap.get (get_or ss n no_column).points time → PutsPoint rs ss' n time value old us us' → CommitsPoint rs n time value ss us ss' us'
commits_rolled rs n time value old ss ss' us us' is few was puts = λ cs f over put.
    let before : List ColumnPoints = with_points cs (point_maps ss) in
    let inserted : IsLivePut cs ss' before n f old =
    subst (λ (xs : List ColumnState). IsLivePut cs xs before n f old) (sym is) (is_put cs ss n f over.once over.each put.staged old few (was ∙ ap (finmap.get (get_or ss n no_column).points) (sym put.same_time))) in
    puts cs before f (record { each = ap length is ∙ length-set ss n (committed (get_or ss n no_column)) ∙ over.each; once = over.once; rollups = over.rollups; live = over.live })
    (record { same_time = put.same_time; same_value = put.same_value; put = inserted })

-- the next column is ready, and so are the others after it
pub next_ready : (ss ss' : List ColumnState) (n : ℕ) (ns ns' : List ℕ) → ns' ≡ n ∷ ns → ss' ≡ set ss n (committed (get_or ss n no_column)) → AreReady ss ns' → number_of_points ss + length ns' ≤ 2 ^ 62
    → AreReady ss' ns × (length ss' ≡ length ss) × (number_of_points ss' + length ns ≤ 2 ^ 62) × (Among n ns → ⊥)
next_ready ss ss' n ns ns' e is ready few =
    let s : ColumnState = committed (get_or ss n no_column) in
    let r : AreReady ss (n ∷ ns) = subst (AreReady ss) e ready in
    let long : length ns' ≡ length (n ∷ ns) = ap length e in
    let more = committed-more ss n in
    let same = ap number_of_points is in (
      subst (λ (xs : List ColumnState). AreReady xs ns) (sym is) (ready_others ss ns n s r.2 r.3),
      ap length is ∙ length-set ss n s,
      omega (arith, long, more, same, few),
      r.2,
    )

-- the facts of columns and fields, which are staged, bring columns and cells to an end
abbrev pub PutsRest : List Rule → List ℤ → List ℕ → ℤ → List (LinePart × ℤ) → List Column → List ColumnState → List RollupState → List ColumnPoints → List RuleData → Type 0
PutsRest rs lows ns time xs cs ss us after ends =
    (gs : List Fact) → AreLiveOver rs cs ss (with_points cs (point_maps ss)) us → ArePointsStaged cs ss ns time xs gs → PutsFacts (with_points cs (point_maps ss)) (rules_with rs lows (cells_of us)) after ends gs

line_puts : (rs : List Rule) (lows : List ℤ) (cs : List Column) (ss ss' : List ColumnState) (n : ℕ) (ns ns' : List ℕ) (x : LinePart × ℤ) (xs xs' : List (LinePart × ℤ)) (time : ℤ) (after : List ColumnPoints) (us us' : List RollupState) (ends : List RuleData) (fs : List Fact)
    → ns' ≡ n ∷ ns → xs' ≡ x ∷ xs → ss' ≡ set ss n (committed (get_or ss n no_column)) → us' ≡ with_all_grid_cells (cells_of us') us → (Among n ns → ⊥)
    → CommitsPoint rs n time x.1 ss us ss' us' → PutsRest rs lows ns time xs cs ss' us' after ends → AreLiveOver rs cs ss (with_points cs (point_maps ss)) us → ArePointsStaged cs ss ns' time xs' fs
    → PutsFacts (with_points cs (point_maps ss)) (rules_with rs lows (cells_of us)) after ends fs
line_puts rs lows cs ss ss' n ns ns' x xs xs' time after us us' ends [] e d is kept away one others over put = absurd (subst (λ (ys : List (LinePart × ℤ)). AreOfFields time ys []) d put.values)
line_puts rs lows cs ss ss' n ns ns' x xs xs' time after us us' ends (f ∷ fs) e d is kept away one others over put =
    let s : ColumnState = committed (get_or ss n no_column) in
    let of : AreOfFields time (x ∷ xs) (f ∷ fs) = subst (λ (ys : List (LinePart × ℤ)). AreOfFields time ys (f ∷ fs)) d put.values in
    let all : AreStaged cs ss (n ∷ ns) (f ∷ fs) = subst (λ (ms : List ℕ). AreStaged cs ss ms (f ∷ fs)) e put.staged in
    puts_more rs lows cs ss ss' n f fs after (cells_of us) (cells_of us') ends over.once over.each all.0 is (one cs f over (record { same_time = of.0.0; same_value = of.0.1; staged = all.0 })) over.live
    (λ lives. others fs
    (record { each = ap length is ∙ length-set ss n s ∙ over.each; once = over.once; rollups = subst (AreRollups rs cs) (sym kept) (rollups_with rs cs (cells_of us') us over.rollups); live = lives })
    (record { values = of.1; staged = subst (λ (ys : List ColumnState). AreStaged cs ys ns fs) (sym is) (staged_others cs ss ns fs n s away all.1) }))

-- nothing is staged
none_puts : (cs : List Column) (ss : List ColumnState) (ns : List ℕ) (columns : List ColumnPoints) (rs : List RuleData) (fs : List Fact) → length ns ≡ 0 → AreStaged cs ss ns fs → PutsFacts columns rs columns rs fs
none_puts cs ss [] columns rs [] e a = (refl, refl)
none_puts cs ss _ columns rs fs e a = absurd (omega arith)

-- ---- the loop over the columns of a line

module _ (rs : List Rule) (time : ℤ) (all : List ℕ) (fields : List (LinePart × ℤ)) (first : List ColumnState) (firsts : List RollupState) where
  -- the points of these columns and fields are left to commit
  pub record AreLeft (ns : List ℕ) (xs : List (LinePart × ℤ)) (ss : List ColumnState) (us : List RollupState) : Type 0 where
    pub ready : AreReady ss ns
    pub few : number_of_points ss + length ns ≤ 2 ^ 62
    pub same : length xs ≡ length ns
    pub long : length ss ≡ length first
    pub columns : all_committed ss ns ≡ all_committed first all
    pub kept : us ≡ with_all_grid_cells (cells_of us) firsts
    pub cells : (cs : List Column) (lows : List ℤ) (after : List ColumnPoints) (ends : List RuleData) → PutsRest rs lows ns time xs cs ss us after ends → PutsRest rs lows all time fields cs first firsts after ends

  module _ (n : ℕ) (ns ns' : List ℕ) (xs' : List (LinePart × ℤ)) (ss : List ColumnState) (us : List RollupState) (ids : ns' ≡ n ∷ ns) (left : AreLeft ns' xs' ss us) where
    pub next_is_ready : AreReady ss (n ∷ [])
    next_is_ready = let ready = subst (AreReady ss) ids left.ready in (ready.0, ready.1, (λ none. none), tt)

    pub next_fits : number_of_points ss + 1 ≤ 2 ^ 62
    next_fits = let longer : length ns' ≡ suc (length ns) = ap length ids in omega (arith, longer, left.few)

    pub next_left : (x : LinePart × ℤ) (xs : List (LinePart × ℤ)) (ss' : List ColumnState) (us' : List RollupState) → xs' ≡ x ∷ xs → ss' ≡ set ss n (committed (get_or ss n no_column)) → us' ≡ with_all_grid_cells (cells_of us') us → CommitsPoint rs n time x.1 ss us ss' us' → AreLeft ns xs ss' us'
    next_left x xs ss' us' values is kept one =
        let longer : length ns' ≡ suc (length ns) = ap length ids in
        let wider : length xs' ≡ suc (length xs) = ap length values in
        let next = next_ready ss ss' n ns ns' ids is left.ready left.few in
        record {
          ready = next.0;
          few = next.2;
          same = omega (arith, longer, wider, left.same);
          long = next.1 ∙ left.long;
          columns = ap (λ (zs : List ColumnState). all_committed zs ns) is ∙ sym (ap (all_committed ss) ids) ∙ left.columns;
          kept = grids_kept_then firsts us us' left.kept kept;
          cells = λ cs lows after ends others. left.cells cs lows after ends (λ gs over put. line_puts rs lows cs ss ss' n ns ns' x xs xs' time after us us' ends gs ids values is kept next.3 one others over put);
        }

  pub wide_left : (ns : List ℕ) (xs : List (LinePart × ℤ)) (ss : List ColumnState) (us : List RollupState) → AreLeft ns xs ss us → AllByRecursion (λ (s : RollupState). length s.series_of_column ≡ length first) firsts
      → AllByRecursion (λ (s : RollupState). length s.series_of_column ≡ length ss) us
  wide_left ns xs ss us left each = wide_still (length ss) firsts us left.kept (subst (λ n. AllByRecursion (λ (s : RollupState). length s.series_of_column ≡ n) firsts) (sym left.long) each)

-- none are left
pub none_left : {X Y : Type 0} (xs : List X) (ys : List Y) → length ys ≡ length xs → (xs ≡ []) ⊎ (ys ≡ []) → length xs ≡ 0
none_left xs ys same (inl e) = ap length e
none_left xs ys same (inr e) = sym same ∙ ap length e

pub rest_done : (rs : List Rule) (lows : List ℤ) (time : ℤ) (ns : List ℕ) (xs : List (LinePart × ℤ)) (cs : List Column) (ss : List ColumnState) (us : List RollupState) → length ns ≡ 0 → PutsRest rs lows ns time xs cs ss us (with_points cs (point_maps ss)) (rules_with rs lows (cells_of us))
rest_done rs lows time ns xs cs ss us e = λ gs over put. none_puts cs ss ns (with_points cs (point_maps ss)) (rules_with rs lows (cells_of us)) gs e put.staged

pub none_committed : (ss : List ColumnState) (ns : List ℕ) → length ns ≡ 0 → ss ≡ all_committed ss ns
none_committed ss [] e = refl
none_committed ss (n ∷ ns) e = absurd (omega arith)

-- ---- the facts of a line

pub of_fields : (p : Parts) (time : ℤ) → p.time ≡ time → (xs : List (LinePart × ℤ)) → AreOfFields time xs (map (fact_of p) xs)
of_fields p time e [] = tt
of_fields p time e (x ∷ xs) = ((e, refl), of_fields p time e xs)

pub wide_of : (rs : List Rule) (cs : List Column) (n : ℕ) (ss : List RollupState) → AreRollups rs cs ss → n ≡ length cs → AllByRecursion (λ (s : RollupState). length s.series_of_column ≡ n) ss
wide_of [] cs n [] a e = tt
wide_of (r ∷ rs) cs n (s ∷ ss) a e = (rollup_series-length r s.grid.rollup_series cs s.series_of_column a.0 ∙ sym e, wide_of rs cs n ss a.1 e)
wide_of _ cs n _ a e = search rules

pub live_same : (before after : List ColumnPoints) → facts_of before ≡ facts_of after → (rs : List Rule) (ms : List CellMap) → OfEach (IsLive before) rs ms → OfEach (IsLive after) rs ms
live_same before after e = OfEach-weaker (IsLive before) (IsLive after) (λ r m live k p g. live k p g ∙ ap (total_of r k) e)
