use Rattle.std.proofs.Common.{rules, ◌≡◌, ◌∙◌, ◌+◌, ◌<◌, ◌≤ℤ◌, ℕ, ℤ, pos, [], ◌∷◌, List, length, get_or, set, take, Option, Some, None, refl, arith, ap, ap₂, sym, subst, w64, SFits, to_z-of_z}
use Rattle.std.specs.List.{AllByRecursion}
use Rattle.std.proofs.lemmas.List.{get_or-map, length-map}
use Rattle.ts_cells.proofs.GridMoves.{all_at}
use Rattle.ts_core.specs.facts.Facts.{Column, Fact}
use Rattle.ts_core.specs.settings.Settings.{Rule}
use Rattle.ts_core.specs.store.Marks.{index_of}
use Rattle.ts_core.specs.store.StoreStates.{ColumnPoints, facts_of}
use Rattle.ts_core.specs.aggregates.Aggregates.{Aggregate, aggregate_of_one, merged, IsSound}
use Rattle.ts_core.specs.aggregates.Remainders.{IsOnlyRest}
use Rattle.ts_core.specs.moves.StoreMoves.{put_cell}
use Rattle.ts_core.specs.store.StoreData.{CellMap}
use Rattle.ts_raw.specs.Columns.{ColumnState}
use Rattle.ts_store.specs.rollup.ChangedLists.{ChangesBeside}
use Rattle.ts_store.specs.rollup.Rollups.{RollupState, rollup_series_at, added_in}
use Rattle.ts_store.specs.store.ColumnStates.{with_points, point_maps}
use Rattle.ts_store.specs.write.CellsCreated.{KeepsRollupSeries, bucket_indices}
use Rattle.ts_store.specs.write.PointPuts.{AreLiveOver, IsPointPut, PutsPoint}
use Rattle.ts_store.proofs.retain.PointsFrozen.{with_grid}
use Rattle.ts_store.proofs.rollup.ChangedListsLemmas.{next_changed, unchanged_yet, all_changed, grids_beside}
use Rattle.ts_store.proofs.write.PointsPut.{corrected_in, put_passed, put_added, put_missing, put_corrected, put_folded, PutsUnder, all_put}
use Rattle.ts_store.proofs.write.committing.update_cells.Goals.{in-Some-without, in-None}
use Rattle.ts_store.proofs.write.committing.update_cells.Goals as goal

-- ---- the next rule

-- the index of a fact's bucket
index_at : (rules : List Rule) (buckets : List ℤ) (i : ℕ) (r : Rule) (time t : ℤ) → i < length rules → r ≡ get_or rules i r → buckets ≡ bucket_indices rules time → t ≡ time → get_or buckets i (pos 0) ≡ index_of r t
index_at rules buckets i r time t inside at all same =
    let bucket : Rule → ℤ = λ r. index_of r time in
    ap (λ (is : List ℤ). get_or is i (pos 0)) all ∙ get_or-map bucket rules i r (pos 0) inside ∙ ap bucket (sym at) ∙ ap (index_of r) (sym same)

module _ (rules : List Rule) (columns : List ColumnState) (column : ℕ) (time value : ℤ) (old : Option ℤ) (ss ts : List RollupState) (i : ℕ) (d : RollupState) (changed : ChangesBeside (PutsUnder columns column time value old) (take i rules) ss ts) where
  -- its rollup has each column
  each_at : i < length ss → AllByRecursion (λ (s : RollupState). length s.series_of_column ≡ length columns) ss → length (get_or ts i d).series_of_column ≡ length columns
  each_at inside all =
      let wide : RollupState → Type 0 = λ s. length s.series_of_column ≡ length columns in
      subst wide (sym (unchanged_yet _ rules ss ts i d changed)) (all_at wide ss i d inside all)

  -- its cells have the point
  next_put : (r : Rule) (t : RollupState) → i < length rules → r ≡ get_or rules i r → KeepsRollupSeries (get_or ts i d) t
      → ((cs : List Column) (before : List ColumnPoints) (f : Fact) → AreLiveOver (r ∷ []) cs columns before (get_or ts i d ∷ []) → IsPointPut cs columns before column time value old f
      → t.grid.cells ≡ put_cell r f (facts_of (with_points cs (point_maps columns))) (get_or ts i d).grid.cells)
      → ChangesBeside (PutsUnder columns column time value old) (take (i + 1) rules) ss (set ts i t)
  next_put r t inside at kept puts = next_changed (PutsUnder columns column time value old) rules ss ts i r r d t inside at (kept, λ cs before f over put. ap (λ (m : CellMap). m ∷ []) (puts cs before f over put)) changed

pub bounds-buckets-i : goal.bounds-buckets-i
bounds-buckets-i g c = let many = ap length c.requires.buckets ∙ length-map c.args.rules.now (λ (r : Rule). index_of r c.args.time) in omega (arith, many)

pub rollup_series_of-requires : goal.rollup_series_of-requires
rollup_series_of-requires g c =
    let at = c.number.ensures in
    let wide = each_at _ _ _ _ _ _ _ _ c.loop-i.i c.index-rollups-i.result c.loop-i.invariant.changed c.loop-i-test.true c.requires.each in
    omega (arith, at, c.requires.column, wide)

pub loop-i-preserved-in_default : goal.loop-i-preserved-in_default
loop-i-preserved-in_default g c =
    let inside : c.loop-i.i < length c.args.rules.now = omega arith in
    let s : RollupState = get_or c.loop-i.rollups c.loop-i.i c.index-rollups-i.result in
    let none : rollup_series_at s c.args.column ≡ None = ap (rollup_series_at s) (sym c.number.ensures) ∙ sym c.rollup_series_of.ensures.series ∙ c.in_default.is in
    record {
      changed = next_put _ _ _ _ _ _ _ _ _ _ c.loop-i.invariant.changed c.index-rules-i.result _ inside c.index-rules-i.is refl (λ cs before f over put. put_passed _ cs _ before _ _ f _ over put.put none);
      same = c.loop-i.invariant.same;
    }

-- ---- a new fact

pub loop-i-preserved-in_default-old : goal.loop-i-preserved-in_default-old
loop-i-preserved-in_default-old g c =
    let inside : c.loop-i.i < length c.args.rules.now = omega arith in
    let s : RollupState = get_or c.loop-i.rollups c.loop-i.i c.index-rollups-i.result in
    let at : rollup_series_at s c.args.column ≡ Some c.in-Some.series = ap (rollup_series_at s) (sym c.number.ensures) ∙ sym c.rollup_series_of.ensures.series ∙ c.in-Some.is in
    let none : c.args.old ≡ None = sym c.loop-i.invariant.same ∙ c.in_default-old.is in
    let bucket : ℤ = get_or c.args.buckets.now c.loop-i.i (pos 0) in
    record {
      changed = next_put _ _ _ _ _ _ _ _ _ _ c.loop-i.invariant.changed c.index-rules-i.result _ inside c.index-rules-i.is (with_grid _ _ c.add.new.self c.rollup.view_is c.add.ensures.kept) (λ cs before f over put.
          c.add.ensures.cells
          ∙ ap (λ (t : RollupState). added_in t c.in-Some.series bucket c.single.result) c.rollup.view_is
          ∙ put_added c.index-rules-i.result cs c.args.columns.now before s c.args.column f c.args.old over put.put c.in-Some.series at bucket (index_at _ _ _ _ _ _ inside c.index-rules-i.is c.requires.buckets put.same_time) c.single.result none
          (c.single.ensures ∙ ap₂ aggregate_of_one (sym put.same_time) (sym put.same_value)));
      same = c.loop-i.invariant.same;
    }

-- ---- a fact in the place of another

pub loop-i-preserved-in_default-live : goal.loop-i-preserved-in_default-live
loop-i-preserved-in_default-live g c =
    let inside : c.loop-i.i < length c.args.rules.now = omega arith in
    let s : RollupState = get_or c.loop-i.rollups c.loop-i.i c.index-rollups-i.result in
    let at : rollup_series_at s c.args.column ≡ Some c.in-Some.series = ap (rollup_series_at s) (sym c.number.ensures) ∙ sym c.rollup_series_of.ensures.series ∙ c.in-Some.is in
    record {
      changed = next_put _ _ _ _ _ _ _ _ _ _ c.loop-i.invariant.changed c.index-rules-i.result _ inside c.index-rules-i.is refl (λ cs before f over put.
          put_missing _ cs _ before _ _ f _ over put.put c.in-Some.series at _ (index_at _ _ _ _ _ _ inside c.index-rules-i.is c.requires.buckets put.same_time) (sym c.live.ensures ∙ c.in_default-live.is));
      same = sym c.in-Some-old.is ∙ c.loop-i.invariant.same;
    }

pub rollup_series_total-live-requires-clause-interval : goal.rollup_series_total-live-requires-clause-interval
rollup_series_total-live-requires-clause-interval g c =
    subst (λ (r : Rule). pos 1 ≤ℤ r.interval) (sym c.index-rules-i.is) (all_at (λ (r : Rule). pos 1 ≤ℤ r.interval) c.args.rules.now c.loop-i.i c.index-rules-i.result (omega arith) c.requires.intervals)

pub rollup_series_total-live-requires-clause-each : goal.rollup_series_total-live-requires-clause-each
rollup_series_total-live-requires-clause-each g c = each_at _ _ _ _ _ _ _ _ c.loop-i.i c.index-rollups-i.result c.loop-i.invariant.changed c.loop-i-test.true c.requires.each

pub loop-i-preserved : goal.loop-i-preserved
loop-i-preserved g c =
    let inside : c.loop-i.i < length c.args.rules.now = omega arith in
    let r : Rule = c.index-rules-i.result in
    let s : RollupState = get_or c.loop-i.rollups c.loop-i.i c.index-rollups-i.result in
    let at : rollup_series_at s c.args.column ≡ Some c.in-Some.series = ap (rollup_series_at s) (sym c.number.ensures) ∙ sym c.rollup_series_of.ensures.series ∙ c.in-Some.is in
    let was : c.args.old ≡ Some c.in-Some-old.replaced = sym c.loop-i.invariant.same ∙ c.in-Some-old.is in
    let bucket : ℤ = get_or c.args.buckets.now c.loop-i.i (pos 0) in
    record {
      changed = next_put _ _ _ _ _ _ _ _ _ _ c.loop-i.invariant.changed r _ inside c.index-rules-i.is (with_grid _ _ c.correct.new.self c.rollup.view_is c.correct.ensures.kept) (λ cs before f over put.
          let index : bucket ≡ index_of r f.time = index_at _ _ _ _ _ _ inside c.index-rules-i.is c.requires.buckets put.same_time in
          c.correct.ensures.cells
          ∙ ap (λ (t : RollupState). corrected_in t c.in-Some.series bucket c.match-without.live) c.rollup.view_is
          ∙ elim c.match-without.branch [
            | in-Some-without w ↦
                let one : w.single-in-Some-without.result ≡ aggregate_of_one f.time f.value = w.single-in-Some-without.ensures ∙ ap₂ aggregate_of_one (sym put.same_time) (sym put.same_value) in
                let in_64 : SFits w64 c.in-Some-old.replaced = search rules in
                let old : c.single-in-loop-i.result ≡ aggregate_of_one f.time c.in-Some-old.replaced = c.single-in-loop-i.ensures ∙ ap₂ aggregate_of_one (sym put.same_time) (to_z-of_z in_64) in
                let rest : IsOnlyRest IsSound merged c.in-Some-live.live c.single-in-loop-i.result w.in-Some-without.rest = search rules in
                put_corrected r cs c.args.columns.now before s c.args.column f c.args.old over put.put c.in-Some.series at bucket index c.in-Some-old.replaced c.in-Some-live.live w.in-Some-without.rest c.match-without.live was
                (sym c.live.ensures ∙ c.in-Some-live.is) (subst (λ (p : Aggregate). IsOnlyRest IsSound merged c.in-Some-live.live p w.in-Some-without.rest) old rest) (w.live-is ∙ w.merge-live.ensures ∙ ap (λ a. merged a w.in-Some-without.rest) one)
            | in-None w ↦
                put_folded r cs c.args.columns.now before s c.args.column f c.args.old over put.put c.in-Some.series at bucket index c.match-without.live w.rollup_series_total-live.ensures.once (w.live-is ∙ w.rollup_series_total-live.ensures.total)
          ]);
      same = sym c.in-Some-old.is ∙ c.loop-i.invariant.same;
    }

pub returns-clause-kept : goal.returns-clause-kept
returns-clause-kept g c = grids_beside _ (λ r s t h. h.0) _ _ _ c.loop-i.invariant.changed

pub returns-clause-cells : goal.returns-clause-cells
returns-clause-cells g c =
    let fits : SFits w64 c.args.value = search rules in
    subst (λ (v : ℤ). PutsPoint c.args.rules.now c.args.columns.now c.args.column c.args.time v c.args.old c.args.rollups.now c.loop-i.rollups) (to_z-of_z fits)
    (all_put _ _ _ _ _ _ _ _ (all_changed _ c.args.rules.now _ _ c.loop-i.i (omega arith) c.loop-i.invariant.changed))
