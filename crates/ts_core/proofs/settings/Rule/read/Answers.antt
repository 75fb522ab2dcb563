use Rattle.std.proofs.Common.{rules, ◌≡◌, Option, Some, IfOk, IfErr, subst}
use Rattle.serde_json.specs.Read.{read}
use Rattle.serde_json.specs.View.{view}
use Rattle.ts_core.specs.settings.Settings.{Rule}
use Rattle.ts_core.specs.settings.SettingsTexts.{rule_read, IsRefusal}
use Rattle.ts_core.proofs.settings.SettingsForms.{no_rule_data, rule_data, refused_by}
use Rattle.ts_core.proofs.settings.Rule.read.Goals as goal

pub returns-in_err-value-clause-err : goal.returns-in_err-value-clause-err
returns-in_err-value-clause-err g c =
    let text = c.args.text.now in
    let refusal : IsRefusal c.in_err-value.field-0.0 (rule_read text) = refused_by c.in_err-value.field-0.0 (read text) (rule_read text) (no_rule_data text) c.in_err-value.ensures.err in
    search rules

pub returns-clause-ok : goal.returns-clause-ok
returns-clause-ok g c =
    subst (λ (o : Option Rule). IfOk c.of_json.result (λ r. o ≡ Some r)) (rule_data c.args.text.now (view c.in_ok-value.value) c.in_ok-value.ensures.ok) c.of_json.ensures.ok

pub returns-clause-err : goal.returns-clause-err
returns-clause-err g c =
    subst (λ (o : Option Rule). IfErr c.of_json.result (λ e. IsRefusal e o)) (rule_data c.args.text.now (view c.in_ok-value.value) c.in_ok-value.ensures.ok) c.of_json.ensures.err
