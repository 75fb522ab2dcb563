use Rattle.std.proofs.Common.{◌+◌, slice_range, sym, ap, ◌∙◌, Ok, ℤ, refl}
use Rattle.std.specs.Str.Parse.{digits_value}
use Rattle.ts_line.proofs.ShortLemmas.{plain_value, minus_value, as_integer, as_negative}
use Rattle.ts_line.proofs.short.short_integer.Goals as goal

pub returns-then-byte_at-eq45-clause-value : goal.returns-then-byte_at-eq45-clause-value
returns-then-byte_at-eq45-clause-value c = λ start.
    let line = c.args.line.now in
    let at = c.args.at in
    let end = c.in_ok-number.end in
    let r = c.in_ok-number.ensures in
    minus_value line start at end (sym c.byte_at.ensures ∙ c.if-byte_at-eq45.true) r.some r.within r.digits r.short r.last r.rest
    ∙ ap (λ (n : ℤ). Ok (n, end + 1)) (sym (as_negative (digits_value 10 (slice_range line (at + 1) end)) c.in_ok-number.number r.value r.short))
    ∙ rw (c.after.ensures.value) refl

pub returns-clause-value : goal.returns-clause-value
returns-clause-value c = λ start.
    let line = c.args.line.now in
    let at = c.args.at in
    let end = c.in_ok-number-2.end in
    let r = c.in_ok-number-2.ensures in
    plain_value line start at end r.some r.within r.digits r.short r.last r.rest
    ∙ ap (λ (n : ℤ). Ok (n, end + 1)) (sym (as_integer (digits_value 10 (slice_range line at end)) c.in_ok-number-2.number r.value r.short))
    ∙ rw (c.after-2.ensures.value) refl
