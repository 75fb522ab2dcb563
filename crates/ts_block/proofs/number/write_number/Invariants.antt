use Rattle.std.proofs.Common.{◌≡◌, ℕ, ◌+◌, ◌<◌, ◌++◌, length, take}
use Rattle.ts_block.specs.Varints.{digits_text}
use Rattle.ts_block.proofs.NumbersLemmas.{limit}
use Rattle.ts_block.proofs.number.write_number.Given as goal

-- any text of the rest completes the number
abbrev pub invariant-loop-rest : goal.invariant-loop-rest
invariant-loop-rest l = record {
  more : ℕ;
  few : l.size + more < 10;
  long : length l.out ≡ 10;
  fits : l.rest < limit more;
  text : take l.size l.out ++ digits_text more l.rest ≡ digits_text 9 l.number;
}

abbrev pub decreases-loop-rest : goal.decreases-loop-rest
decreases-loop-rest l = l.rest
