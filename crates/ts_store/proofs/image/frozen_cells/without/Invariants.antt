use Rattle.std.proofs.Common.{◌≡◌, ◌+◌, length}
use Rattle.ts_store.proofs.image.frozen_cells.without.Given as goal

abbrev pub invariant-loop : goal.invariant-loop
invariant-loop g l = l.left + length l.fn.cells ≡ l.fn.count + length l.iterator'
