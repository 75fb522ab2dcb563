use Rattle.std.proofs.Common.{sym, ◌∙◌}
use Rattle.std.specs.Cmp.Lexicographic.{other_text}
use Rattle.ts_check.proofs.CertificateTokens.{unparsed, misspelled}
use Rattle.ts_check.proofs.read.number.Goals as goal

pub returns-in-Err : goal.returns-in-Err
returns-in-Err c = unparsed c.args.text.now c.in-Err.ensures.value.0

pub returns-else-eq : goal.returns-else-eq
returns-else-eq c = misspelled c.args.text.now c.format.result.now c.in-Ok.number c.in-Ok.ensures.value.0 c.format.ensures.text (other_text _ _ (sym c.if-eq.false ∙ c.eq.ensures))
