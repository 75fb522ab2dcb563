use Rattle.std.proofs.Common.{◌≡◌, ◌<◌, ◌+◌, ◌∙◌, ℕ, List, length, take, get_or, sym, subst, arith, add-one}
use Rattle.std.specs.FinMap as finmap
use Rattle.std.proofs.lemmas.List.{get_or_default, take_all, length-map}
use Rattle.ts_core.specs.facts.Facts.{Fact}
use Rattle.ts_core.specs.settings.Settings.{Rule}
use Rattle.ts_core.specs.store.StoreStates.{ColumnPoints, facts_at, facts_of}
use Rattle.ts_raw.specs.Columns.{ColumnState}
use Rattle.ts_store.specs.image.BuildingParts.{MakesCells}
use Rattle.ts_store.specs.store.ColumnStates.{no_column, with_points, point_maps}
use Rattle.ts_core.specs.store.StoreData.{OfEachRule}
use Rattle.ts_store.specs.store.RuleLists.{rules_with}
use Rattle.ts_store.specs.rollup.Rollups.{AreRollups, cells_of}
use Rattle.ts_store.proofs.rollup.CellsCreated.{all-made-none, all-made-then}
use Rattle.ts_store.proofs.store.ColumnsLemmas.{column-there, turn-taken, with_points-length}
use Rattle.ts_store.proofs.write.PointsPut.{wide_first, grids_kept_then, wide_still}
use Rattle.ts_store.proofs.rollup.ChangedListsLemmas.{grids_kept}
use Rattle.ts_store.proofs.retain.RollupMoves.{rollups_with}
use Rattle.ts_store.proofs.rollup.cells_filled.make_all_cells.Goals as goal

pub loop-number-init : goal.loop-number-init
loop-number-init g c = record {
  kept = grids_kept c.args.rollups.now;
  cells = λ cs each h. all-made-none (rules_with c.args.rules.now c.args.lows.now (cells_of c.args.rollups.now));
}

pub make_under_all-requires-clause-inside : goal.make_under_all-requires-clause-inside
make_under_all-requires-clause-inside g c =
    wide_first (length c.args.columns.now) c.loop-number.rollups c.loop-number.number (omega arith)
    (wide_still (length c.args.columns.now) c.args.rollups.now c.loop-number.rollups c.loop-number.invariant.kept c.requires.each)

pub returns-in_err-make_under_all-clause-kept : goal.returns-in_err-make_under_all-clause-kept
returns-in_err-make_under_all-clause-kept g c = grids_kept_then c.args.rollups.now c.loop-number.rollups c.make_under_all.new.rollups c.loop-number.invariant.kept c.make_under_all.ensures.kept

pub loop-number-preserved : goal.loop-number-preserved
loop-number-preserved g c =
    let rs : List Rule = c.args.rules.now in
    let ss : List ColumnState = c.args.columns.now in
    let n : ℕ = c.loop-number.number in
    let within : n < length ss = omega arith in
    let is : c.index-columns-number.result ≡ get_or ss n no_column = c.index-columns-number.is ∙ get_or_default ss n c.index-columns-number.result no_column within in
    record {
      kept = grids_kept_then c.args.rollups.now c.loop-number.rollups c.make_under_all.new.rollups c.loop-number.invariant.kept c.make_under_all.ensures.kept;
      cells = λ cs each h.
          let there = column-there cs n (subst (λ k. n < k) each within) in
          let now : AreRollups rs cs c.loop-number.rollups = subst (AreRollups rs cs) (sym c.loop-number.invariant.kept) (rollups_with rs cs (cells_of c.loop-number.rollups) c.args.rollups.now h) in
          let before : List Fact = facts_of (take n (with_points cs (point_maps ss))) in
          let its : List Fact = facts_at there.0 (finmap.entries c.index-columns-number.result.points) in
          subst (λ (fs : List Fact). OfEachRule (MakesCells fs) (rules_with rs c.args.lows.now (cells_of c.args.rollups.now)) (rules_with rs c.args.lows.now (cells_of c.make_under_all.new.rollups)))
          (sym (turn-taken cs ss n there.0 c.index-columns-number.result each there.1 is (n + 1) (add-one n)))
          (all-made-then before its _ (rules_with rs c.args.lows.now (cells_of c.loop-number.rollups)) _ (c.loop-number.invariant.cells cs each h) (c.in_ok-make_under_all.ensures.cells cs there.0 there.1 now));
    }

pub returns-clause-cells : goal.returns-clause-cells
returns-clause-cells g c = λ cs each h.
    let ss : List ColumnState = c.args.columns.now in
    let many : length (with_points cs (point_maps ss)) ≡ length cs = with_points-length cs (point_maps ss) (length-map ss (λ (s : ColumnState). s.points) ∙ each) in
    let all : take c.loop-number.number (with_points cs (point_maps ss)) ≡ with_points cs (point_maps ss) = take_all c.loop-number.number (with_points cs (point_maps ss)) (omega (arith, many, each)) in
    subst (λ (xs : List ColumnPoints). OfEachRule (MakesCells (facts_of xs)) (rules_with c.args.rules.now c.args.lows.now (cells_of c.args.rollups.now)) (rules_with c.args.rules.now c.args.lows.now (cells_of c.loop-number.rollups))) all (c.loop-number.invariant.cells cs each h)
