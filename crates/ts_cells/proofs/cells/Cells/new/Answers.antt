use Rattle.std.proofs.Common.{sym}
use Rattle.ts_cells.proofs.FrozenLemmas.{frozen_none}
use Rattle.ts_cells.proofs.cells.Cells.new.Goals as goal

pub invariant_of-result : goal.invariant_of-result
invariant_of-result g c = rw (c.new.ensures, c.new-2.ensures.items) record {
  grid = record { once = tt; rising = tt; narrow = tt };
  counted = sym (frozen_none g.P.Partial.size);
}
