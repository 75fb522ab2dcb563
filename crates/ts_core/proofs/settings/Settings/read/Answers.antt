use Rattle.std.proofs.Common.{◌≡◌, Result, Ok, Err, IfOk, IfErr, subst}
use Rattle.serde_json.specs.View.{view}
use Rattle.ts_core.specs.settings.Settings.{Settings}
use Rattle.ts_core.specs.settings.SettingsTexts.{settings_read}
use Rattle.ts_core.specs.declared.settings.settings_fault.SettingsError.TheVariants as errors
use Rattle.ts_core.specs.declared.settings.settings_fault.SettingsFault.{SettingsFault}
use Rattle.ts_core.proofs.settings.SettingsForms.{no_data, value_read, error_handed_on}
use Rattle.ts_core.proofs.settings.Settings.read.Goals as goal

pub returns-in_err-value-clause-fault : goal.returns-in_err-value-clause-fault
returns-in_err-value-clause-fault g c =
    error_handed_on c.from_residual.result c.in_err-value.field-0.0 (settings_read c.args.text.now) c.from_residual.ensures.1
    (λ f is. no_data c.args.text.now c.in_err-value.field-0.0 f c.in_err-value.ensures.err is)

pub returns-clause-ok : goal.returns-clause-ok
returns-clause-ok g c =
    subst (λ (out : Result Settings SettingsFault). IfOk c.of_json.result (λ s. out ≡ Ok s)) (value_read c.args.text.now (view c.in_ok-value.value) c.in_ok-value.ensures.ok) c.of_json.ensures.ok

pub returns-clause-fault : goal.returns-clause-fault
returns-clause-fault g c =
    subst (λ (out : Result Settings SettingsFault). IfErr c.of_json.result (λ e. (f : SettingsFault) → e ≡ errors.Fault f → out ≡ Err f)) (value_read c.args.text.now (view c.in_ok-value.value) c.in_ok-value.ensures.ok) c.of_json.ensures.fault
