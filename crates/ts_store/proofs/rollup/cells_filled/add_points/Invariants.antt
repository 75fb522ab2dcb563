use Rattle.std.proofs.Common.{◌≡◌, ◌≤◌, ◌^◌, length}
use Rattle.ts_store.specs.rollup.Rollups.{with_grid_cells}
use Rattle.ts_store.proofs.rollup.CellsCreated.{AddsRest}
use Rattle.ts_store.proofs.rollup.cells_filled.add_points.Given as goal

abbrev pub invariant-loop-points : goal.invariant-loop-points
invariant-loop-points g l = record {
  kept : l.rollup ≡ with_grid_cells l.rollup.grid.cells l.fn.rollup;
  few : length l.points ≤ 2 ^ 62;
  adds : AddsRest l.rule l.series l.fn.points l.fn.rollup l.points l.rollup;
}

abbrev pub decreases-loop-points : goal.decreases-loop-points
decreases-loop-points g l = length l.points
