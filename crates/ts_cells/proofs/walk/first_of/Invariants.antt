use Rattle.std.proofs.Common.{◌≡◌, List, length, drop}
use Rattle.ts_cells.specs.Grids.{RollupSeries}
use Rattle.ts_cells.specs.Walks.{walk_left}
use Rattle.ts_cells.proofs.walk.first_of.Given as goal

abbrev pub invariant-loop-row : goal.invariant-loop-row
invariant-loop-row g l = record {
  same : (ls : List RollupSeries) → walk_left ls l.order l.rows (drop l.from l.order) ≡ walk_left ls l.order l.all (drop l.start l.order);
}

abbrev pub decreases-loop-row : goal.decreases-loop-row
decreases-loop-row g l = length l.rows
