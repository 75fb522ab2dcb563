use Rattle.std.proofs.Common.{◌<◌, ◌≤ℤ◌, ℤ, List, pos, length, get_or, ap, subst, arith}
use Rattle.std.specs.FinMap as finmap
use Rattle.ts_core.specs.settings.Settings.{Rule}
use Rattle.ts_store.specs.rollup.PointsFilled.{AddsPoints}
use Rattle.ts_store.specs.rollup.Rollups.{RollupState, rollup_series_at}
use Rattle.ts_store.proofs.image.ListedColumns.{item_has}
use Rattle.ts_store.proofs.rollup.ChangedListsLemmas.{next_changed, unchanged_yet, all_changed, grids_beside}
use Rattle.ts_store.proofs.rollup.RulesFilled.{all_frozen, all_added}
use Rattle.ts_store.proofs.rollup.cells_filled.add_under_all.Goals as goal

pub add_points-requires : goal.add_points-requires
add_points-requires g c =
    let points = ap length c.all.ensures.points in
    let many = finmap.len-entries c.args.column.now.points in
    record {
      interval = item_has (λ (r : Rule). pos 1 ≤ℤ r.interval) c.args.rules.now c.loop-i.i _ c.index-rules-i.result (omega arith) c.index-rules-i.is c.requires.intervals;
      column = item_has (λ (s : RollupState). c.args.number < length s.series_of_column) c.args.rollups.now c.loop-i.i _ c.index-rollups-i.result (omega arith) (unchanged_yet _ _ _ _ _ _ c.loop-i.invariant) c.requires.inside;
      few = omega (arith, points, many, c.requires.few);
    }

pub loop-i-preserved : goal.loop-i-preserved
loop-i-preserved g c =
    let r : Rule = c.index-rules-i.result in
    let s : RollupState = get_or c.loop-i.rollups c.loop-i.i c.index-rollups-i.result in
    next_changed _ c.args.rules.now _ _ c.loop-i.i r r c.index-rollups-i.result _ (omega arith) c.index-rules-i.is (subst (λ (ps : List (ℤ × ℤ)). AddsPoints r (rollup_series_at s c.args.number) ps s c.add_points.new.rollup) c.all.ensures.points c.add_points.ensures) c.loop-i.invariant

pub returns : goal.returns
returns g c =
    let added = all_changed _ _ _ _ c.loop-i.i (omega arith) c.loop-i.invariant in
    record {
      kept = grids_beside _ (λ r s t h. h.kept) c.args.rules.now _ _ added;
      frozen = all_frozen c.args.number _ c.args.rules.now _ _ added;
      live = λ cs d left all at over few. all_added c.args.number _ cs d left all c.args.rules.now _ _ at over few added;
    }
