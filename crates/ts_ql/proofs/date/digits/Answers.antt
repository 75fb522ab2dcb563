use Rattle.std.proofs.Common.{rules, sym, ◌≡◌}
use Rattle.ts_ql.proofs.DateLemmas.{digits_are_utf8, digits_are_number}
use Rattle.ts_ql.proofs.date.digits.Goals as goal

pub unreachable-requires : goal.unreachable-requires
unreachable-requires c = c.in_default.ensures.cases.0 (digits_are_utf8 c.args.text.now (sym c.if-not-are_digits.ensures))

pub whole-requires : goal.whole-requires
whole-requires c =
    let same : c.in-Ok.text.now ≡ c.args.text.now = search rules in
    rw same (digits_are_number c.args.text.now (sym c.if-not-are_digits.ensures))
