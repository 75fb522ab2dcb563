use Rattle.std.proofs.Common.{rules, ◌≡◌, ◌∙◌, ◌+◌, ◌≤◌, ◌^◌, ℕ, ℤ, None, List, length, ap, sym, subst, refl, arith, SFits, w64, to_z-of_z}
use Rattle.std.proofs.lemmas.Slice.Zip.{either_empty_from_Zip}
use Rattle.std.proofs.lemmas.List.{length-set}
use Rattle.std.specs.List.{AllByRecursion}
use Rattle.ts_line.specs.Parts.{LinePart}
use Rattle.ts_raw.specs.Columns.{ColumnState}
use Rattle.ts_store.specs.store.ColumnStates.{with_points, point_maps, all_committed, AreReady}
use Rattle.ts_store.specs.read.PointsRead.{number_of_points}
use Rattle.ts_store.specs.write.PointPuts.{PutsPoint}
use Rattle.ts_store.specs.rollup.Rollups.{RollupState, rollup_series_at, cells_of}
use Rattle.ts_store.specs.store.RuleLists.{rules_with}
use Rattle.ts_store.proofs.write.PointsPut.{PutsRest, ready_staged, point_found, now_committed, committed-more, wide_first, commits_alone, commits_rolled, next_is_ready, next_fits, next_left, wide_left, rest_done, none_left, none_committed}
use Rattle.ts_store.proofs.rollup.ChangedListsLemmas.{grids_kept}
use Rattle.ts_store.proofs.write.committing.commit_points.Goals as goal

pub loop-number-init : goal.loop-number-init
loop-number-init g c =
    let ss : List ColumnState = c.args.columns.now.items in
    let us : List RollupState = c.args.rollups.now in
    let ns : List ℕ = c.into_iter-number-iterator.result.a.rest.now in
    let ids : ns ≡ c.args.numbers.now = (λ i. (c.into_iter-number-iterator.ensures.into_iter_gives i).a.rest.now) ∙ (λ i. (c.zip-number-items.ensures.first i).rest.now) ∙ c.iter.ensures.rest in
    let values : c.into_iter-number-iterator.result.b.rest.now ≡ c.args.fields.now = (λ i. (c.into_iter-number-iterator.ensures.into_iter_gives i).b.rest.now) ∙ c.zip-number-items.ensures.second.0 in
    record {
      ready = subst (AreReady ss) (sym ids) c.requires.ready;
      few = subst (λ (ms : List ℕ). number_of_points ss + length ms ≤ 2 ^ 62) (sym ids) c.requires.few;
      same = ap length values ∙ c.requires.fields ∙ ap length (sym ids);
      long = refl;
      columns = ap (all_committed ss) ids;
      kept = grids_kept us;
      cells = λ cs lows after ends rest.
          subst (λ (ms : List ℕ). PutsRest c.args.rules.now lows ms c.args.time c.args.fields.now cs ss us after ends) ids
          (subst (λ (xs : List (LinePart × ℤ)). PutsRest c.args.rules.now lows ns c.args.time xs cs ss us after ends) values rest);
    }

pub is_rolled-requires : goal.is_rolled-requires
is_rolled-requires g c =
    let within = (next_is_ready _ _ _ _ _ _ _ _ _ _ _ _ c.in-Some.ensures.steps.0 c.loop-number.invariant).0 in
    wide_first _ c.loop-number.rollups c.number-at.result (omega (arith, within, c.number-at.ensures)) (wide_left _ _ _ _ _ _ _ _ _ _ c.loop-number.invariant c.requires.each)

-- ---- no rule rolls the column up

pub commit-requires : goal.commit-requires
commit-requires g c = ready_staged c.loop-number.columns.items _ c.number-at.result c.index_mut.result.now (next_is_ready _ _ _ _ _ _ _ _ _ _ _ _ c.in-Some.ensures.steps.0 c.loop-number.invariant) c.number-at.ensures c.index_mut.ensures.value

pub loop-number-preserved-then-not-is_rolled : goal.loop-number-preserved-then-not-is_rolled
loop-number-preserved-then-not-is_rolled g c =
    let ss : List ColumnState = c.loop-number.columns.items in
    let ready = next_is_ready _ _ _ _ _ _ _ _ _ _ _ _ c.in-Some.ensures.steps.0 c.loop-number.invariant in
    next_left _ _ _ _ _ _ _ _ _ _ _ _ c.in-Some.ensures.steps.0 c.loop-number.invariant _ _ _ c.loop-number.rollups c.in-Some.ensures.steps.1
    (now_committed ss _ c.number-at.result c.index_mut.result.now ready c.number-at.ensures c.index_mut.ensures.value c.commit.new.self c.commit.ensures.put c.commit.ensures.none_staged) (grids_kept c.loop-number.rollups)
    (commits_alone _ _ _ _ _ _ _ (subst (λ k. AllByRecursion (λ (s : RollupState). rollup_series_at s k ≡ None) c.loop-number.rollups) c.number-at.ensures c.if-not-is_rolled.ensures))

-- ---- a rule does

pub commit-requires-in-loop-number : goal.commit-requires-in-loop-number
commit-requires-in-loop-number g c = ready_staged c.loop-number.columns.items _ c.number-at.result c.index_mut-in-loop-number.result.now (next_is_ready _ _ _ _ _ _ _ _ _ _ _ _ c.in-Some.ensures.steps.0 c.loop-number.invariant) c.number-at.ensures c.index_mut-in-loop-number.ensures.value

pub update_cells-requires : goal.update_cells-requires
update_cells-requires g c =
    let ss : List ColumnState = c.loop-number.columns.items in
    let ready = next_is_ready _ _ _ _ _ _ _ _ _ _ _ _ c.in-Some.ensures.steps.0 c.loop-number.invariant in
    let is = now_committed ss _ c.number-at.result c.index_mut-in-loop-number.result.now ready c.number-at.ensures c.index_mut-in-loop-number.ensures.value c.commit-in-loop-number.new.self c.commit-in-loop-number.ensures.put c.commit-in-loop-number.ensures.none_staged in
    let long : length c.as_slice.result.now ≡ length ss = ap length c.as_slice.ensures.value ∙ length-set ss c.number-at.result c.commit-in-loop-number.new.self in
    let within = ready.0 in
    let more = committed-more ss c.in-Some.number.now in
    let same = ap number_of_points (c.as_slice.ensures.value ∙ is) in
    let few = next_fits _ _ _ _ _ _ _ _ _ _ _ _ c.in-Some.ensures.steps.0 c.loop-number.invariant in
    record {
      intervals = c.requires.intervals;
      buckets = c.requires.buckets;
      column = omega (arith, within, long);
      rules = search rules;
      each = subst (λ n. AllByRecursion (λ (s : RollupState). length s.series_of_column ≡ n) c.loop-number.rollups) (sym long) (wide_left _ _ _ _ _ _ _ _ _ _ c.loop-number.invariant c.requires.each);
      few = omega (arith, more, same, few);
    }

pub loop-number-preserved : goal.loop-number-preserved
loop-number-preserved g c =
    let ss : List ColumnState = c.loop-number.columns.items in
    let ready = next_is_ready _ _ _ _ _ _ _ _ _ _ _ _ c.in-Some.ensures.steps.0 c.loop-number.invariant in
    let is = now_committed ss _ c.number-at.result c.index_mut-in-loop-number.result.now ready c.number-at.ensures c.index_mut-in-loop-number.ensures.value c.commit-in-loop-number.new.self c.commit-in-loop-number.ensures.put c.commit-in-loop-number.ensures.none_staged in
    let few = next_fits _ _ _ _ _ _ _ _ _ _ _ _ c.in-Some.ensures.steps.0 c.loop-number.invariant in
    let was = point_found ss _ c.number-at.result c.index.result.now ready c.number-at.ensures c.index.ensures c.value_at-old.result c.args.time c.args.time refl c.value_at-old.ensures in
    let fits : SFits w64 c.value.result = search rules in
    next_left _ _ _ _ _ _ _ _ _ _ _ _ c.in-Some.ensures.steps.0 c.loop-number.invariant _ _ _ c.update_cells.new.rollups c.in-Some.ensures.steps.1 is c.update_cells.ensures.kept
    (commits_rolled _ _ _ _ c.value_at-old.result ss _ c.loop-number.rollups c.update_cells.new.rollups is few was
    (subst (λ (xs : List ColumnState). PutsPoint c.args.rules.now xs c.in-Some.number.now c.args.time c.in-Some.field.now.1 c.value_at-old.result c.loop-number.rollups c.update_cells.new.rollups) c.as_slice.ensures.value
    (subst (λ (v : ℤ). PutsPoint c.args.rules.now c.as_slice.result.now c.in-Some.number.now c.args.time v c.value_at-old.result c.loop-number.rollups c.update_cells.new.rollups) (to_z-of_z fits ∙ c.value.ensures) c.update_cells.ensures.cells)))

pub returns-clause-columns : goal.returns-clause-columns
returns-clause-columns g c =
    none_committed _ _ (none_left _ _ c.loop-number.invariant.same (either_empty_from_Zip c.loop-number.number-iterator c.next.new.self c.next.result c.in-None.is c.next.ensures.steps)) ∙ c.loop-number.invariant.columns

pub returns-clause-cells : goal.returns-clause-cells
returns-clause-cells g c = λ cs lows fs over put.
    let none = none_left _ _ c.loop-number.invariant.same (either_empty_from_Zip c.loop-number.number-iterator c.next.new.self c.next.result c.in-None.is c.next.ensures.steps) in
    c.loop-number.invariant.cells cs lows (with_points cs (point_maps c.loop-number.columns.items)) (rules_with c.args.rules.now lows (cells_of c.loop-number.rollups)) (rest_done c.args.rules.now lows _ _ _ cs _ _ none) fs over put
