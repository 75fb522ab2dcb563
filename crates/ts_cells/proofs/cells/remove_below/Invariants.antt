use Rattle.std.proofs.Common.{◌-◌}
use Rattle.ts_cells.proofs.Sweeps.{IsCountedSweep}
use Rattle.ts_cells.proofs.cells.remove_below.Given as goal

abbrev pub invariant-loop-removed : goal.invariant-loop-removed
invariant-loop-removed g l = IsCountedSweep g.P.Partial.size l.low l.initial.rows.items l.removed l.frozen l.emptied l.rows.items

abbrev pub decreases-loop-removed : goal.decreases-loop-removed
decreases-loop-removed g l = 256 - l.removed
