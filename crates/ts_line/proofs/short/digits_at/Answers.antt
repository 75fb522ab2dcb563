use Rattle.std.proofs.Common.{◌≡◌, ◌<◌, ◌≤◌, ◌+◌, ◌*◌, true, length, slice_range, get_or, ap, sym, ◌∙◌, arith}
use Rattle.std.specs.Char.{is_ascii_digit, digit_value}
use Rattle.std.specs.Str.Parse.{digits_value}
use Rattle.ts_core.specs.facts.Facts.{Text}
use Rattle.ts_line.proofs.ShortLemmas.{digits_step, value_step, short_number, shorter_number}
use Rattle.ts_line.proofs.short.digits_at.Goals as goal

pub overflow_mul-number : goal.overflow_mul-number
overflow_mul-number c =
    let small = shorter_number c.args.line.now c.args.from c.loop-at.at c.loop-at.invariant.digits (omega (arith, c.min-last.ensures)) in
    omega (arith, small, c.loop-at.invariant.value)

pub overflow_add-number : goal.overflow_add-number
overflow_add-number c =
    let small = shorter_number c.args.line.now c.args.from c.loop-at.at c.loop-at.invariant.digits (omega (arith, c.min-last.ensures)) in
    omega (arith, small, c.loop-at.invariant.value, c.if-digit-gt9.false)

pub loop-at-preserved : goal.loop-at-preserved
loop-at-preserved c =
    let line : Text = c.args.line.now in
    let at = c.loop-at.at in
    let inv = c.loop-at.invariant in
    let within : at < length line = omega (arith, c.min-last.ensures, c.as_bytes-bytes.ensures.len, c.loop-at-test.true) in
    let byte : get_or c.as_bytes-bytes.result.now at 0 ≡ get_or line at 0 = ap (λ (l : Text). get_or l at 0) c.as_bytes-bytes.ensures.value in
    let few : c.digit_of-digit.result ≤ 9 = omega arith in
    let digit : is_ascii_digit (get_or line at 0) ≡ true = ap is_ascii_digit (sym byte) ∙ c.digit_of-digit.ensures.digit few in
    let value : c.digit_of-digit.result ≡ digit_value (get_or line at 0) = c.digit_of-digit.ensures.value few ∙ ap digit_value byte in
    record {
      from = omega arith;
      last = omega arith;
      digits = digits_step line c.args.from at inv.from within digit inv.digits;
      value = ap (λ n. n * 10 + c.digit_of-digit.result) inv.value ∙ ap (λ n. digits_value 10 (slice_range line c.args.from at) * 10 + n) value ∙ sym (value_step line c.args.from at inv.from within);
    }

pub returns-after-loop-at-clause-short : goal.returns-after-loop-at-clause-short
returns-after-loop-at-clause-short c =
    let small = short_number c.args.line.now c.args.from c.loop-at.at c.loop-at.invariant.digits (omega (arith, c.min-last.ensures)) in
    omega (arith, small, c.loop-at.invariant.value)

pub returns-then-digit-gt9-clause-short : goal.returns-then-digit-gt9-clause-short
returns-then-digit-gt9-clause-short c =
    let small = short_number c.args.line.now c.args.from c.loop-at.at c.loop-at.invariant.digits (omega (arith, c.min-last.ensures)) in
    omega (arith, small, c.loop-at.invariant.value)
