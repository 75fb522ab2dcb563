use Rattle.ts_check.proofs.CertificateLaws.{behind_stop}
use Rattle.ts_check.proofs.read.read_lines.Goals as goal

pub returns-in-Err : goal.returns-in-Err
returns-in-Err g c = behind_stop c.args.text.now c.lines.pieces.items c.lines.rest.now c.in-Err.at.now c.fault_at.result.at c.lines.invariant.1 c.in-Err.ensures.fault c.fault_at.ensures
