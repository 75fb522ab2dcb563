use Rattle.std.proofs.Common.{◌≡◌, ◌≤ℤ◌, take}
use Rattle.ts_store.specs.rollup.Rollups.{with_grid_cells}
use Rattle.ts_store.specs.write.CellsCreated.{cells_created_for}
use Rattle.ts_store.proofs.write.creating.create_cells_under.Given as goal

abbrev pub invariant-loop-column : goal.invariant-loop-column
invariant-loop-column g l = record {
  above : l.low ≤ℤ l.index;
  kept : l.rollup ≡ with_grid_cells l.rollup.grid.cells l.initial.rollup;
  made : l.rollup ≡ cells_created_for l.index (take l.column-index l.touched) l.initial.rollup;
}
