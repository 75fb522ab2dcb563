use Rattle.std.proofs.Common.{◌≡◌, ◌≤◌, ◌^◌, length}
use Rattle.ts_store.specs.rollup.Rollups.{with_grid_cells}
use Rattle.ts_store.proofs.rollup.CellsCreated.{AddsRest}
use Rattle.ts_store.proofs.rollup.cells_filled.add_run.Given as goal

abbrev pub invariant-loop-index : goal.invariant-loop-index
invariant-loop-index g l = record {
  kept : l.rollup ≡ with_grid_cells l.rollup.grid.cells l.fn.rollup;
  few : length l.run ≤ 2 ^ 62;
  adds : AddsRest l.rule l.series l.fn.run l.fn.rollup l.run l.rollup;
}

abbrev pub decreases-loop-index : goal.decreases-loop-index
decreases-loop-index g l = length l.run
