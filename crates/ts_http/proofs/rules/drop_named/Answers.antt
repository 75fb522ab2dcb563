use Rattle.std.proofs.Common.{◌≡◌, None, true, ap, refl, subst}
use Rattle.ts_core.specs.facts.Facts.{Text}
use Rattle.ts_core.specs.settings.Settings.{Settings}
use Rattle.ts_core.specs.settings.SettingsFaults.{is_named, settings_fault}
use Rattle.ts_core.specs.store.StoreData.{store_settings}
use Rattle.ts_store.proofs.rules.ShortNames.{named_short}
use Rattle.ts_http.specs.Acts.{answer_reply, bad_reply}
use Rattle.ts_http.specs.declared.outcome.RequestOutcome.TheVariants.{Brief}
use Rattle.ts_http.specs.declared.status.Status.TheVariants.{Success, BadRequest}
use Rattle.ts_store.proofs.rules.RuleStates.{was_named}
use Rattle.ts_http.proofs.RuleLemmas.{drop_refused, was_dropped}
use Rattle.ts_http.proofs.rules.drop_named.Goals as goal

pub dropped_body-requires : goal.dropped_body-requires
dropped_body-requires g c =
    let named = was_named (is_named (store_settings c.args.store.now).rules c.args.name.now) c.in-Ok.ensures.unknown in
    named_short (store_settings c.args.store.now) c.args.name.now (subst (λ (z : Settings). settings_fault z ≡ None) c.settings.ensures.value c.rules.ensures.faultless) named

pub returns-in-Ok : goal.returns-in-Ok
returns-in-Ok g c =
    let named = was_named (is_named (store_settings c.args.store.now).rules c.args.name.now) c.in-Ok.ensures.unknown in
    was_dropped c.args.name.now c.args.store.now c.drop_rule.new.self (Brief Success c.dropped_body.result) named c.in-Ok.ensures.ok (ap (λ (t : Text). answer_reply true t) c.dropped_body.ensures)

pub returns-in-Err : goal.returns-in-Err
returns-in-Err g c = drop_refused c.args.name.now c.args.store.now c.drop_rule.new.self (Brief BadRequest c.code_body.result) (c.in-Err.ensures.unknown.0 refl) c.in-Err.ensures.err (ap (λ (t : Text). bad_reply t) c.code_body.ensures)
