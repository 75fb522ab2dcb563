use Rattle.std.proofs.Common.{◌≡◌, false, length}
use Rattle.ts_line.specs.Values.{after_digits}
use Rattle.ts_line.proofs.value.after_digits.Given as goal

abbrev pub invariant-loop-rest : goal.invariant-loop-rest
invariant-loop-rest l = after_digits l.some l.rest ≡ after_digits false l.text

abbrev pub decreases-loop-rest : goal.decreases-loop-rest
decreases-loop-rest l = length l.rest
