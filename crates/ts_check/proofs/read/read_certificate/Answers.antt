use Rattle.ts_check.proofs.CertificateLaws.{reading, read_as, read_spelled, one_certificate}
use Rattle.ts_check.proofs.CertificateNumbers.{decimals}
use Rattle.ts_check.specs.CertificateTexts.{IsPlainSpelling}
use Rattle.ts_check.proofs.read.read_certificate.Goals as goal

pub returns-clause-value : goal.returns-clause-value
returns-clause-value g c = reading c.args.text.now c.read_lines.result c.in_ok-checked.ensures.ok c.read_lines.ensures

pub returns-clause-only : goal.returns-clause-only
returns-clause-only g c = read_as c.args.text.now c.read_lines.result c.read_lines.ensures

pub returns-clause-spelled : goal.returns-clause-spelled
returns-clause-spelled g c = read_spelled c.args.text.now c.read_lines.result c.read_lines.ensures

plain_spelling : IsPlainSpelling
plain_spelling = record { certificates = one_certificate; numbers = decimals }

pub returns-clause-spelling : goal.returns-clause-spelling
returns-clause-spelling g c = plain_spelling

pub returns-in_err-checked-clause-spelling : goal.returns-in_err-checked-clause-spelling
returns-in_err-checked-clause-spelling g c = plain_spelling
