use Rattle.std.proofs.Common.{sym, ◌∙◌}
use Rattle.std.specs.Cmp.Lexicographic.{other_text}
use Rattle.ts_check.proofs.CertificateLaws.{uncut_stops, other_stops}
use Rattle.ts_check.proofs.read.next.Goals as goal

pub returns-in_default-clause-fault : goal.returns-in_default-clause-fault
returns-in_default-clause-fault c = uncut_stops c.args.rest.now c.in_default.ensures.none

pub returns-in-None-clause-fault : goal.returns-in-None-clause-fault
returns-in-None-clause-fault c =
    other_stops c.args.rest.now c.in-Some.line.now c.in-Some.after.now c.in-Some.ensures.found c.in-Some.ensures.first (other_text _ _ (sym c.if-eq.false ∙ c.eq.ensures)) c.in-None.ensures
