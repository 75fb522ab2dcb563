use Rattle.std.proofs.Common.{◌≡◌, ℕ, ◌+◌, ◌<◌, ◌++◌, vec_len, vec_capacity}
use Rattle.ts_block.specs.Varints.{digits_text}
use Rattle.ts_block.proofs.NumbersLemmas.{limit}
use Rattle.ts_block.proofs.number.append_number.Given as goal

-- any text of the rest completes the number
abbrev pub invariant-loop-rest : goal.invariant-loop-rest
invariant-loop-rest g l = record {
  more : ℕ;
  few : vec_len l.out + more < vec_len l.fn.out + 10;
  capacity : vec_capacity l.out ≡ vec_capacity l.fn.out;
  fits : l.rest < limit more;
  text : l.out.items ++ digits_text more l.rest ≡ l.fn.out.items ++ digits_text 9 l.number;
}

abbrev pub decreases-loop-rest : goal.decreases-loop-rest
decreases-loop-rest g l = l.rest
