use Rattle.std.proofs.Common.{rules, ◌≡◌, ℕ, [], Option, Some, sym, subst}
use Rattle.ts_store.specs.rollup.PointsFilled.{MakesPoints}
use Rattle.ts_store.specs.rollup.Rollups.{rollup_series_at}
use Rattle.ts_store.proofs.rollup.CellsCreated.{makes_both, makes_none, makes_apart}
use Rattle.ts_store.proofs.retain.PointsFrozen.{grid_kept_then}
use Rattle.ts_store.proofs.rollup.cells_filled.make_cells.Goals as goal

pub loop-points-preserved : goal.loop-points-preserved
loop-points-preserved g c = record {
  kept = grid_kept_then c.args.rollup.now c.loop-points.rollup c.make_run.new.rollup _ c.loop-points.invariant.kept c.in_ok-make_run.ensures.kept;
  cells = λ u h. c.loop-points.invariant.cells u (makes_both _ _ _ _ _ _ c.loop-points.rollup c.make_run.new.rollup u c.next_run-run.ensures.points c.in_ok-make_run.ensures.cells h);
}

-- a column of another measurement
pub returns-in_default-clause-cells : goal.returns-in_default-clause-cells
returns-in_default-clause-cells g c = makes_apart _ _ _ _ _ (search rules)

pub returns-then-is_empty-clause-cells : goal.returns-then-is_empty-clause-cells
returns-then-is_empty-clause-cells g c =
    let found : rollup_series_at c.args.rollup.now c.args.column ≡ Some c.in-Some.series = search rules in
    let empty : c.next_run-run.result ≡ [] = search rules in
    subst (λ (o : Option ℕ). MakesPoints c.args.rule.now c.args.low.now o c.args.points c.args.rollup.now c.loop-points.rollup) (sym found)
    (c.loop-points.invariant.cells c.loop-points.rollup (makes_none _ _ _ _ _ (c.next_run-run.ensures.some empty)))
