use Rattle.serde_json.specs.View.{view}
use Rattle.std.proofs.Common.{refl}
use Rattle.ts_core.specs.store.StoreData.{store_settings}
use Rattle.ts_store.proofs.rules.RuleTextLemmas.{read_refused, text_added}
use Rattle.ts_store.proofs.store.Store.add_rule_text.Goals as goal

pub returns-in-Ok : goal.returns-in-Ok
returns-in-Ok g c = text_added c.args.self.now c.add_rule_json.new.self c.args.text.now (view c.in-Ok.value) c.add_rule_json.result c.in-Ok.ensures.ok c.add_rule_json.ensures.added

pub returns-in-Err : goal.returns-in-Err
returns-in-Err g c = (read_refused (store_settings c.args.self.now) c.args.text.now c.in-Err.error c.in-Err.ensures.err, refl)
