use Rattle.std.proofs.Common.{◌≡◌, ◌+◌, ◌≤◌, ◌^◌, length}
use Rattle.ts_store.specs.rollup.Rollups.{with_grid_cells}
use Rattle.ts_store.proofs.retain.BucketsMoved.{AreMoving}
use Rattle.ts_store.proofs.retain.freezing.move_points.Given as goal

abbrev pub invariant-loop-time : goal.invariant-loop-time
invariant-loop-time g l = record {
  kept : l.rollup ≡ with_grid_cells l.rollup.grid.cells l.fn.rollup;
  few : l.folded.count + length l.time-iterator ≤ 2 ^ 62;
  cells : AreMoving l.rule l.mark l.column l.columns l.fn.rollup l.time-iterator l.rollup.grid.cells l.bucket l.folded;
}
