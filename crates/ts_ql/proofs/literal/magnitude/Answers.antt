use Rattle.std.proofs.Common.{◌≡◌, ◌+◌, get_or, true, false, rules}
use Rattle.std.specs.Char.{is_ascii_digit}
use Rattle.ts_ql.specs.DurationUnits.{nanoseconds_of_unit}
use Rattle.ts_ql.proofs.LiteralLemmas.{digit_past, unit_past}
use Rattle.ts_ql.proofs.literal.magnitude.Goals as goal

pub returns-in_err-number : goal.returns-in_err-number
returns-in_err-number c =
    let digit : is_ascii_digit (get_or c.as_bytes-bytes.result.now c.loop-at.at 0) ≡ true = search rules in
    rw c.from_residual.ensures
    (digit_past c.loop-at.total c.loop-at.number c.as_bytes-bytes.result.now c.loop-at.at _ c.loop-at-test.true c.loop-at.invariant digit c.in_err-number.ensures)

pub returns-in_err-total : goal.returns-in_err-total
returns-in_err-total c =
    let digit : is_ascii_digit (get_or c.as_bytes-bytes.result.now c.loop-at.at 0) ≡ false = search rules in
    rw c.from_residual-in_err-total.ensures
    (unit_past c.loop-at.total c.loop-at.number c.as_bytes-bytes.result.now c.loop-at.at _ c.loop-at-test.true c.loop-at.invariant digit (let e : c.nanoseconds_of_unit-unit.result ≡ nanoseconds_of_unit (get_or c.as_bytes-bytes.result.now c.loop-at.at 0) (get_or c.as_bytes-bytes.result.now (c.loop-at.at + 1) 0) = cc in λ fits. c.in_err-total.ensures (rw e fits)))
