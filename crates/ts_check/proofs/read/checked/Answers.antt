use Rattle.std.proofs.Common.{rules, [], ◌∷◌, ◌++◌}
use Rattle.ts_check.proofs.CertificateLaws.{one_more, behind_stop}
use Rattle.ts_check.proofs.read.checked.Goals as goal

pub lines-preserved : goal.lines-preserved
lines-preserved c =
    let here = rw c.in-Ok-Some.field-0-is at c.in-Ok-Some.ensures.piece in
    (search rules, c.lines.invariant.1 ++ (_ ∷ []), one_more c.args.text.now c.lines.invariant.1 _ c.lines.rest.now c.in-Ok-Some.after.now c.lines.invariant.2 here)

pub returns-in-Err-clause-err : goal.returns-in-Err-clause-err
returns-in-Err-clause-err c = behind_stop c.args.text.now c.lines.invariant.1 c.lines.rest.now c.in-Err.at.now c.fault_at.result.at c.lines.invariant.2 c.in-Err.ensures.fault c.fault_at.ensures
