use Rattle.ts_http.proofs.RuleLemmas.{add_no_text}
use Rattle.ts_http.proofs.rules.add_rule.Goals as goal

pub returns-in-Err : goal.returns-in-Err
returns-in-Err g c = add_no_text c.args.body.now c.args.store.now c.in-Err.ensures.cases.0
