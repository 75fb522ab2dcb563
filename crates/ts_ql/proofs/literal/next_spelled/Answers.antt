use Rattle.std.specs.Str.Iter.{chars_rest}
use Rattle.std.proofs.lemmas.Str.{IsUtf8-past_char}
use Rattle.ts_ql.proofs.LiteralLemmas.{chars_plain, chars_escape, chars_backslash, chars_end}
use Rattle.ts_ql.proofs.literal.next_spelled.Goals as goal

pub returns-in_err-c-clause-value : goal.returns-in_err-c-clause-value
returns-in_err-c-clause-value c = rw c.from_residual.ensures (chars_end (chars_rest c.args.chars.now) c.in_err-c.ensures.steps.0.0)

pub returns-then-c-ne92-clause-rest : goal.returns-then-c-ne92-clause-rest
returns-then-c-ne92-clause-rest c = IsUtf8-past_char (chars_rest c.args.chars.now) (chars_rest c.next.new.self) c.in_ok-c.c c.requires c.in_ok-c.ensures.steps.0

pub returns-then-c-ne92-clause-value : goal.returns-then-c-ne92-clause-value
returns-then-c-ne92-clause-value c = chars_plain (chars_rest c.args.chars.now) (chars_rest c.next.new.self) c.in_ok-c.c c.requires c.in_ok-c.ensures.steps.0 c.if-c-ne92.true

pub returns-in_err-next-clause-value : goal.returns-in_err-next-clause-value
returns-in_err-next-clause-value c =
    rw c.from_residual-in_err-next.ensures (chars_backslash (chars_rest c.args.chars.now) (chars_rest c.next.new.self) c.in_ok-c.c c.requires c.in_ok-c.ensures.steps.0 c.if-c-ne92.false c.in_err-next.ensures.steps.0.0)

pub returns-clause-rest : goal.returns-clause-rest
returns-clause-rest c =
    let within = IsUtf8-past_char (chars_rest c.args.chars.now) (chars_rest c.next.new.self) c.in_ok-c.c c.requires c.in_ok-c.ensures.steps.0 in
    IsUtf8-past_char (chars_rest c.next.new.self) (chars_rest c.next-2.new.self) c.in_ok-next.field-0 within c.in_ok-next.ensures.steps.0

pub returns-clause-value : goal.returns-clause-value
returns-clause-value c =
    rw c.escape.ensures
    (chars_escape (chars_rest c.args.chars.now) (chars_rest c.next.new.self) (chars_rest c.next-2.new.self) c.in_ok-c.c c.in_ok-next.field-0 c.requires c.in_ok-c.ensures.steps.0 c.if-c-ne92.false c.in_ok-next.ensures.steps.0)
