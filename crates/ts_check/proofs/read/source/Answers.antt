use Rattle.ts_check.proofs.CertificateTokens.{source_uncut, source_other, source_nameless, source_misnamed}
use Rattle.ts_check.proofs.read.source.Goals as goal

pub returns-in_err-word : goal.returns-in_err-word
returns-in_err-word c = rw c.from_residual.ensures (source_uncut c.args.line.now c.in_err-word.ensures.none)

pub returns-in_err-name-in-rollup : goal.returns-in_err-name-in-rollup
returns-in_err-name-in-rollup c =
    rw c.from_residual-in_err-name-in-rollup.ensures
    (source_nameless c.args.line.now c.in_ok-word.word.now c.in_ok-word.rest.now c.in_ok-word.ensures.found c.in_ok-word.ensures.first c.in-rollup.is c.in_err-name-in-rollup.ensures.none)

pub returns-in-None : goal.returns-in-None
returns-in-None c =
    source_misnamed c.args.line.now c.in_ok-word.word.now c.in_ok-word.rest.now c.in_ok-name-in-rollup.name.now c.in_ok-name-in-rollup.rest.now c.in_ok-word.ensures.found c.in_ok-word.ensures.first
    c.in-rollup.is c.in_ok-name-in-rollup.ensures.found c.in_ok-name-in-rollup.ensures.first c.in-None.ensures

pub returns-in_default : goal.returns-in_default
returns-in_default c =
    source_other c.args.line.now c.in_ok-word.word.now c.in_ok-word.rest.now c.in_ok-word.ensures.found c.in_ok-word.ensures.first c.in_default.not-raw c.in_default.not-rollup
