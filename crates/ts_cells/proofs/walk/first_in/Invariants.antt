use Rattle.std.proofs.Common.{◌≡◌, ◌-◌, List, length, drop}
use Rattle.ts_cells.specs.Grids.{RollupSeries}
use Rattle.ts_cells.specs.Walks.{row_left}
use Rattle.ts_cells.proofs.walk.first_in.Given as goal

abbrev pub invariant-loop-at : goal.invariant-loop-at
invariant-loop-at g l = record {
  same : (ls : List RollupSeries) → row_left ls l.row.0 l.row.1 (drop l.at l.order) ≡ row_left ls l.row.0 l.row.1 (drop l.start l.order);
}

abbrev pub decreases-loop-at : goal.decreases-loop-at
decreases-loop-at g l = length l.order - l.at
