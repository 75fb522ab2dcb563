use Rattle.std.proofs.Common.{◌≡◌, filter, length}
use Rattle.ts_core.specs.queries.Fills.{has_data}
use Rattle.ts_exec.proofs.filled.next_with_data.Given as goal

abbrev pub invariant-loop-row : goal.invariant-loop-row
invariant-loop-row l = filter has_data l.rows ≡ filter has_data l.fn.rows

abbrev pub decreases-loop-row : goal.decreases-loop-row
decreases-loop-row l = length l.rows
