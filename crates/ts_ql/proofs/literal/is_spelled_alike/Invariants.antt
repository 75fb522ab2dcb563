use Rattle.std.proofs.Common.{◌≡◌, length, bytes_eq}
use Rattle.std.specs.Str.{IsUtf8}
use Rattle.std.specs.Str.Iter.{chars_rest}
use Rattle.ts_ql.specs.Literals.{spelled_chars, text_spelled}
use Rattle.ts_ql.proofs.literal.is_spelled_alike.Given as goal

abbrev pub invariant-loop-c : goal.invariant-loop-c
invariant-loop-c l =
    IsUtf8 (chars_rest l.chars) × IsUtf8 (chars_rest l.others)
    × (bytes_eq (text_spelled l.text) (text_spelled l.other) ≡ bytes_eq (spelled_chars (chars_rest l.chars)) (spelled_chars (chars_rest l.others)))

abbrev pub decreases-loop-c : goal.decreases-loop-c
decreases-loop-c l = length (chars_rest l.chars)
