use Rattle.ts_check.specs.Certificates.{source_of}
use Rattle.ts_check.proofs.CertificateTokens.{piece_sourceless, piece_rangeless}
use Rattle.ts_check.proofs.read.piece.Goals as goal

pub returns-in_default : goal.returns-in_default
returns-in_default c = piece_sourceless c.args.line.now c.in_default.ensures

pub returns-in_err-from : goal.returns-in_err-from
returns-in_err-from c =
    rw c.from_residual.ensures
    (piece_rangeless c.args.line.now (source_of c.in-Some.source, c.in-Some.rest.now) c.in-Some.ensures c.in_err-from.ensures)
