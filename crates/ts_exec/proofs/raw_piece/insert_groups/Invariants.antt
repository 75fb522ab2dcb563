use Rattle.std.proofs.Common.{◌≡◌}
use Rattle.ts_exec.proofs.raw_piece.insert_groups.Given as goal

abbrev pub invariant-loop-number : goal.invariant-loop-number
invariant-loop-number g l = l.groups ≡ l.fn.groups
