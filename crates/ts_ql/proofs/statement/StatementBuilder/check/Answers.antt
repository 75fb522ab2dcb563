use Rattle.std.proofs.Common.{refl, sym}
use Rattle.ts_ql.proofs.BucketLimitsLemmas.{limited}
use Rattle.ts_ql.proofs.statement.StatementBuilder.check.Goals as goal

pub returns-in-None-clause-limits : goal.returns-in-None-clause-limits
returns-in-None-clause-limits g c =
    limited _ c.args.start c.in-Some-span_of.span c.in-Some.ensures.interval c.in-Some-span_of.ensures.order refl refl (sym c.in-None.ensures)
