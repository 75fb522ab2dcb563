use Rattle.std.proofs.Common.{◌≤◌, length, ap, subst}
use Rattle.ts_core.specs.plans.Pieces.{QueryContext}
use Rattle.ts_check.proofs.NamedRules.{marked_rules-short}
use Rattle.ts_check.proofs.query_context.QueryContext.rule_count.Goals as goal

pub returns : goal.returns
returns g c =
    let i = c.self.inside in
    subst (λ n. n ≤ length c.rules.result.now) (ap (λ (t : QueryContext). length t.rules) c.self.view_is)
    (rw c.rules.ensures.value (marked_rules-short i.settings.now.rules i.marks.now.lows).0)
