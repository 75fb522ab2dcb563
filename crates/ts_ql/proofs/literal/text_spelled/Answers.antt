use Rattle.std.proofs.Common.{sym, ◌∙◌, ◌≡◌, refl}
use Rattle.std.specs.Prelude.{string_bytes}
use Rattle.std.specs.Str.Iter.{chars_rest}
use Rattle.std.proofs.lemmas.Str.{IsUtf8-past_char}
use Rattle.ts_ql.specs.Literals.{text_spelled}
use Rattle.ts_ql.proofs.LiteralLemmas.{spelled_escape, spelled_backslash, spelled_plain, spelled_past}
use Rattle.ts_ql.proofs.literal.text_spelled.Goals as goal

pub loop-c-init : goal.loop-c-init
unfolding text_spelled
loop-c-init g c =
    let e : chars_rest c.into_iter-c-iterator.result ≡ c.args.text.now = cc in
    rw e (c.utf8.text, rw c.new-spelled.ensures.bytes refl)

pub loop-c-preserved-then-escaped : goal.loop-c-preserved-then-escaped
loop-c-preserved-then-escaped g c =
    let utf8 = c.loop-c.invariant.0 in
    let past = c.in-Some.ensures.steps.0 in
    let before = string_bytes c.loop-c.spelled in
    let rest = chars_rest c.next.new.self in
    let was = rw c.if-escaped.true at c.loop-c.invariant.1 in (
      IsUtf8-past_char (chars_rest c.loop-c.c-iterator) rest c.in-Some.c utf8 past,
      rw (c.in_ok-push.ensures.bytes, c.escape.ensures) (sym (spelled_escape before (chars_rest c.loop-c.c-iterator) rest c.in-Some.c utf8 past) ∙ was),
    )

pub loop-c-preserved-then-c-eq92 : goal.loop-c-preserved-then-c-eq92
loop-c-preserved-then-c-eq92 g c =
    let utf8 = c.loop-c.invariant.0 in
    let past = c.in-Some.ensures.steps.0 in
    let before = string_bytes c.loop-c.spelled in
    let rest = chars_rest c.next.new.self in
    let was = rw c.if-escaped.false at c.loop-c.invariant.1 in (
      IsUtf8-past_char (chars_rest c.loop-c.c-iterator) rest c.in-Some.c utf8 past,
      sym (spelled_backslash before (chars_rest c.loop-c.c-iterator) rest c.in-Some.c utf8 past c.if-c-eq92.true) ∙ was,
    )

pub loop-c-preserved : goal.loop-c-preserved
loop-c-preserved g c =
    let utf8 = c.loop-c.invariant.0 in
    let past = c.in-Some.ensures.steps.0 in
    let before = string_bytes c.loop-c.spelled in
    let rest = chars_rest c.next.new.self in
    let was = rw c.if-escaped.false at c.loop-c.invariant.1 in (
      IsUtf8-past_char (chars_rest c.loop-c.c-iterator) rest c.in-Some.c utf8 past,
      rw (c.in_ok-push-2.ensures.bytes, c.if-escaped.false) (sym (spelled_plain before (chars_rest c.loop-c.c-iterator) rest c.in-Some.c utf8 past c.if-c-eq92.false) ∙ was),
    )

pub returns : goal.returns
returns g c = sym (spelled_past (string_bytes c.loop-c.spelled) (chars_rest c.loop-c.c-iterator) c.loop-c.escaped c.in-None.ensures.steps.0.0) ∙ c.loop-c.invariant.1
