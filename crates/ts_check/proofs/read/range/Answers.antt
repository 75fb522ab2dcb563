use Rattle.ts_check.proofs.CertificateTokens.{range_uncut, range_from, range_to}
use Rattle.ts_check.proofs.read.range.Goals as goal

pub returns-in_err-from : goal.returns-in_err-from
returns-in_err-from c = rw c.from_residual.ensures (range_uncut c.args.text.now c.in_err-from.ensures.none)

pub returns-in_err-number : goal.returns-in_err-number
returns-in_err-number c =
    rw c.from_residual-in_err-number.ensures (range_from c.args.text.now c.in_ok-from.from.now c.in_ok-from.to.now c.in_ok-from.ensures.found c.in_ok-from.ensures.first c.in_err-number.ensures)

pub returns-in_err-number-2 : goal.returns-in_err-number-2
returns-in_err-number-2 c =
    rw c.from_residual-in_err-number-2.ensures (range_to c.args.text.now c.in_ok-from.from.now c.in_ok-from.to.now c.in_ok-from.ensures.found c.in_ok-from.ensures.first c.in_err-number-2.ensures)
