use Rattle.std.proofs.Common.{length, ◌-◌, ◌≡◌, drop}
use Rattle.ts_ql.specs.Literals.{units_added_up, magnitude}
use Rattle.ts_ql.proofs.literal.magnitude.Given as goal

abbrev pub invariant-loop-at : goal.invariant-loop-at
invariant-loop-at l = units_added_up l.total l.number (drop l.at l.bytes) ≡ magnitude l.text

abbrev pub decreases-loop-at : goal.decreases-loop-at
decreases-loop-at l = length l.bytes - l.at
