use Rattle.ts_check.proofs.CertificateTokens.{cut_first, cut_none}
use Rattle.ts_check.proofs.read.cut.Goals as goal

pub returns-clause-first : goal.returns-clause-first
returns-clause-first c = cut_first c.args.separator c.args.text.now _ c.split_once.ensures.cases c.requires

pub returns-clause-none : goal.returns-clause-none
returns-clause-none c = cut_none c.args.separator c.args.text.now _ c.split_once.ensures.cases c.requires
