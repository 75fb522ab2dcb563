use Rattle.std.proofs.Common.{sym, ◌∙◌}
use Rattle.std.specs.Cmp.Lexicographic.{other_text}
use Rattle.ts_check.proofs.CertificateLaws.{uncut_first, other_first}
use Rattle.ts_check.proofs.read.after_first.Goals as goal

pub returns-in_err-line-clause-none : goal.returns-in_err-line-clause-none
returns-in_err-line-clause-none c = rw c.from_residual.ensures (uncut_first c.args.text.now c.in_err-line.ensures.none)

pub returns-else-eq-clause-none : goal.returns-else-eq-clause-none
returns-else-eq-clause-none c =
    other_first c.args.text.now c.in_ok-line.line.now c.in_ok-line.rest.now c.in_ok-line.ensures.found c.in_ok-line.ensures.first (other_text _ _ (sym c.if-eq.false ∙ c.eq.ensures))
