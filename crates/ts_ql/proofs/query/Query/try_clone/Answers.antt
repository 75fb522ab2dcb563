use Rattle.std.proofs.Common.{sym, subst}
use Rattle.ts_ql.specs.QueryRules.{IsSelect}
use Rattle.ts_ql.proofs.query.Query.try_clone.Goals as goal

pub invariant_of-result : goal.invariant_of-result
invariant_of-result g c = subst IsSelect (sym c.in_ok-parts.ensures) c.self.invariant
