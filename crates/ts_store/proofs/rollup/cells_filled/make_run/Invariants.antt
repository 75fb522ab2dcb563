use Rattle.std.proofs.Common.{◌≡◌, length}
use Rattle.ts_store.specs.rollup.Rollups.{with_grid_cells}
use Rattle.ts_store.proofs.rollup.CellsCreated.{MakesRest}
use Rattle.ts_store.proofs.rollup.cells_filled.make_run.Given as goal

abbrev pub invariant-loop-index : goal.invariant-loop-index
invariant-loop-index g l = record {
  kept : l.rollup ≡ with_grid_cells l.rollup.grid.cells l.fn.rollup;
  cells : MakesRest l.rule l.low l.series l.fn.run l.fn.rollup l.run l.rollup;
}

abbrev pub decreases-loop-index : goal.decreases-loop-index
decreases-loop-index g l = length l.run
