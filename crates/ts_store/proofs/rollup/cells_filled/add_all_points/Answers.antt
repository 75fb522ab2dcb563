use Rattle.std.proofs.Common.{◌≡◌, ◌<◌, ◌≤◌, ◌^◌, ◌+◌, ◌∙◌, ℕ, List, [], length, drop, get_or, ap, sym, subst, arith, add-one}
use Rattle.std.specs.FinMap as finmap
use Rattle.std.proofs.lemmas.List.{get_or_default, drop_all, length-map}
use Rattle.ts_core.specs.facts.Facts.{Fact}
use Rattle.ts_core.specs.settings.Settings.{Rule}
use Rattle.ts_core.specs.store.StoreStates.{ColumnPoints, facts_of}
use Rattle.ts_raw.specs.Columns.{ColumnState}
use Rattle.ts_store.specs.image.BuildingParts.{AreFilledBut}
use Rattle.ts_store.specs.store.ColumnStates.{no_column, with_points, point_maps}
use Rattle.ts_store.specs.rollup.Rollups.{AreRollups, cells_of}
use Rattle.ts_store.proofs.store.ColumnsLemmas.{column-there, turn-dropped, some-points, with_points-length, facts-length}
use Rattle.ts_store.proofs.write.PointsPut.{wide_first, grids_kept_then, wide_still}
use Rattle.ts_store.proofs.rollup.ChangedListsLemmas.{grids_kept}
use Rattle.ts_store.proofs.retain.RollupMoves.{rollups_with}
use Rattle.ts_store.proofs.rollup.RulesFilled.{frozen-same, frozen-both, filled-idle, filled-live}
use Rattle.ts_store.proofs.rollup.cells_filled.add_all_points.Goals as goal

pub loop-number-init : goal.loop-number-init
loop-number-init g c = record {
  kept = grids_kept c.args.rollups.now;
  frozen = frozen-same (cells_of c.args.rollups.now);
  live = λ cs each h idle. filled-idle (facts_of (with_points cs (point_maps c.args.columns.now))) c.args.rules.now (cells_of c.args.rollups.now) idle;
}

pub add_under_all-requires-clause-inside : goal.add_under_all-requires-clause-inside
add_under_all-requires-clause-inside g c =
    wide_first (length c.args.columns.now) c.loop-number.rollups c.loop-number.number (omega arith)
    (wide_still (length c.args.columns.now) c.args.rollups.now c.loop-number.rollups c.loop-number.invariant.kept c.requires.each)

pub add_under_all-requires-clause-few : goal.add_under_all-requires-clause-few
add_under_all-requires-clause-few g c =
    let ss : List ColumnState = c.args.columns.now in
    let n : ℕ = c.loop-number.number in
    let within : n < length ss = omega arith in
    let is : c.index-columns-number.result ≡ get_or ss n no_column = c.index-columns-number.is ∙ get_or_default ss n c.index-columns-number.result no_column within in
    let some = some-points ss n within in
    let same = ap (λ (s : ColumnState). finmap.len s.points) is in
    omega (arith, some, same, c.requires.few)

pub loop-number-preserved : goal.loop-number-preserved
loop-number-preserved g c =
    let rs : List Rule = c.args.rules.now in
    let ss : List ColumnState = c.args.columns.now in
    let n : ℕ = c.loop-number.number in
    let within : n < length ss = omega arith in
    let is : c.index-columns-number.result ≡ get_or ss n no_column = c.index-columns-number.is ∙ get_or_default ss n c.index-columns-number.result no_column within in
    record {
      kept = grids_kept_then c.args.rollups.now c.loop-number.rollups c.add_under_all.new.rollups c.loop-number.invariant.kept c.add_under_all.ensures.kept;
      frozen = frozen-both (cells_of c.args.rollups.now) (cells_of c.loop-number.rollups) (cells_of c.add_under_all.new.rollups) c.loop-number.invariant.frozen c.add_under_all.ensures.frozen;
      live = λ cs each h idle.
          let there = column-there cs n (subst (λ k. n < k) each within) in
          let now : AreRollups rs cs c.loop-number.rollups = subst (AreRollups rs cs) (sym c.loop-number.invariant.kept) (rollups_with rs cs (cells_of c.loop-number.rollups) c.args.rollups.now h) in
          let columns : List ColumnPoints = with_points cs (point_maps ss) in
          let few : length (facts_of columns) ≤ 2 ^ 62 = let e = facts-length cs ss each in omega (arith, e, c.requires.few) in
          c.add_under_all.ensures.live cs there.0 (facts_of (drop (n + 1) columns)) (facts_of columns) there.1 now few
          (subst (λ (fs : List Fact). AreFilledBut fs (facts_of columns) rs (cells_of c.loop-number.rollups)) (turn-dropped cs ss n there.0 c.index-columns-number.result each there.1 is (n + 1) (add-one n)) (c.loop-number.invariant.live cs each h idle));
    }

pub returns-clause-live : goal.returns-clause-live
returns-clause-live g c = λ cs each h idle.
    let ss : List ColumnState = c.args.columns.now in
    let columns : List ColumnPoints = with_points cs (point_maps ss) in
    let many : length columns ≡ length cs = with_points-length cs (point_maps ss) (length-map ss (λ (s : ColumnState). s.points) ∙ each) in
    let none : drop c.loop-number.number columns ≡ [] = drop_all c.loop-number.number columns (omega (arith, many, each)) in
    filled-live columns c.args.rules.now (cells_of c.loop-number.rollups)
    (subst (λ (xs : List ColumnPoints). AreFilledBut (facts_of xs) (facts_of columns) c.args.rules.now (cells_of c.loop-number.rollups)) none (c.loop-number.invariant.live cs each h idle))
