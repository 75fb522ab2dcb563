use Rattle.std.proofs.Common.{arith}
use Rattle.ts_line.proofs.ShortLemmas.{plain_number, if_some}
use Rattle.ts_line.proofs.short.short_number.Goals as goal

pub returns-clause-number : goal.returns-clause-number
returns-clause-number c =
    let number = c.digits_at-number.ensures.digits in
    if_some c.ok.result (plain_number c.args.line.now c.args.start _ (omega (arith, number.order, c.if-end-start.false)) (c.if-end-line.false) number.digits)
