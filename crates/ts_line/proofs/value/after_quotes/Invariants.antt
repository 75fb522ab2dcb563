use Rattle.std.proofs.Common.{◌≡◌, false, length}
use Rattle.ts_line.specs.Values.{after_quotes}
use Rattle.ts_line.proofs.value.after_quotes.Given as goal

abbrev pub invariant-loop-rest : goal.invariant-loop-rest
invariant-loop-rest l = after_quotes l.escaped l.rest ≡ after_quotes false l.text

abbrev pub decreases-loop-rest : goal.decreases-loop-rest
decreases-loop-rest l = length l.rest
