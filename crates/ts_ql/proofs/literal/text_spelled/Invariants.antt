use Rattle.std.proofs.Common.{◌≡◌}
use Rattle.std.specs.Prelude.{string_bytes}
use Rattle.std.specs.Str.{IsUtf8}
use Rattle.std.specs.Str.Iter.{chars_rest}
use Rattle.ts_ql.specs.Literals.{text_spelled}
use Rattle.ts_ql.proofs.LiteralLemmas.{spelled_on}
use Rattle.ts_ql.proofs.literal.text_spelled.Given as goal

abbrev pub invariant-loop-c : goal.invariant-loop-c
invariant-loop-c g l = IsUtf8 (chars_rest l.c-iterator) × (spelled_on (string_bytes l.spelled) l.escaped (chars_rest l.c-iterator) ≡ text_spelled l.text)
