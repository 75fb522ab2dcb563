use Rattle.std.proofs.Common.{rules, ◌≡◌, ◌+◌, ◌∙◌, ℕ, [], length, length-append, Option, Some, sym, ap, subst, arith}
use Rattle.ts_store.specs.rollup.PointsFilled.{AddsPoints}
use Rattle.ts_store.specs.rollup.Rollups.{rollup_series_at}
use Rattle.ts_store.proofs.rollup.CellsCreated.{adds_both, adds_none, adds_apart}
use Rattle.ts_store.proofs.retain.PointsFrozen.{grid_kept_then}
use Rattle.ts_store.proofs.rollup.cells_filled.add_points.Goals as goal

pub loop-points-preserved : goal.loop-points-preserved
loop-points-preserved g c =
    let count : length c.loop-points.points ≡ length c.next_run-run.result + length c.next_run-run.new.self = ap length c.next_run-run.ensures.points ∙ length-append c.next_run-run.result c.next_run-run.new.self in
    let few = c.loop-points.invariant.few in
    record {
      kept = grid_kept_then c.args.rollup.now c.loop-points.rollup c.add_run.new.rollup _ c.loop-points.invariant.kept c.add_run.ensures.kept;
      few = omega (arith, count, few);
      adds = λ u h. c.loop-points.invariant.adds u (adds_both _ _ _ _ _ c.loop-points.rollup c.add_run.new.rollup u c.next_run-run.ensures.points c.add_run.ensures h);
    }

-- a column of another measurement
pub returns-in_default : goal.returns-in_default
returns-in_default g c = adds_apart _ _ _ _ (search rules)

pub returns-then-is_empty : goal.returns-then-is_empty
returns-then-is_empty g c =
    let found : rollup_series_at c.args.rollup.now c.args.column ≡ Some c.in-Some.series = search rules in
    let empty : c.next_run-run.result ≡ [] = search rules in
    subst (λ (o : Option ℕ). AddsPoints c.args.rule.now o c.args.points c.args.rollup.now c.loop-points.rollup) (sym found)
    (c.loop-points.invariant.adds c.loop-points.rollup (adds_none _ _ _ _ (c.next_run-run.ensures.some empty)))
