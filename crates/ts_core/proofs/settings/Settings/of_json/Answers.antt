use Rattle.std.proofs.Common.{rules, ◌≡◌, ◌∙◌, ℤ, sym, ap, Some, unsigned_abs, SFits, to_z, of_z, to_z-of_z}
use Rattle.std.specs.Int.{w64}
use Rattle.serde_json.specs.View.{view}
use Rattle.ts_core.specs.settings.SettingsFaults.{settings_fault}
use Rattle.ts_core.specs.settings.SettingsTexts.{settings_parsed}
use Rattle.ts_core.specs.settings.SettingsFound.{settings_from}
use Rattle.ts_core.proofs.settings.SettingsForms.{form_told, value_at_fault, value_faultless, only_fault, no_fault, whatever_error, handed_on, error_handed_on, settings_of_parts}
use Rattle.ts_core.proofs.settings.Settings.of_json.Goals as goal

pub returns-in-Some-clause-fault : goal.returns-in-Some-clause-fault
returns-in-Some-clause-fault g c = λ f same. only_fault (settings_from (view c.args.value.now)) c.in-Some.fault f c.in-Some.ensures same

pub returns-in_err-raw-clause-fault : goal.returns-in_err-raw-clause-fault
returns-in_err-raw-clause-fault g c =
    error_handed_on c.from_residual.result c.in_err-raw.field-0.0 (settings_from (view c.args.value.now)) c.from_residual.ensures.1
    (λ f is. form_told (settings_parsed (view c.args.value.now)) c.in_err-raw.field-0.0 f c.in_err-raw.ensures.err is)

pub returns-in_err-raw-clause-memory : goal.returns-in_err-raw-clause-memory
returns-in_err-raw-clause-memory g c = whatever_error c.from_residual.result (settings_from (view c.args.value.now)) (no_fault (settings_from (view c.args.value.now)) (search rules))

pub returns-in_err-new-clause-fault : goal.returns-in_err-new-clause-fault
returns-in_err-new-clause-fault g c =
    let fits : SFits w64 c.in_ok-raw.raw = search rules in
    let cast : to_z w64 (of_z w64 c.in_ok-raw.raw) ≡ c.in_ok-raw.raw = to_z-of_z fits in
    let fault : settings_fault (settings_of_parts (unsigned_abs c.in_ok-raw.raw) c.in_ok-raw.rules.items) ≡ Some c.in_err-new.field-0.0 =
    ap (λ (z : ℤ). settings_fault (settings_of_parts (unsigned_abs z) c.in_ok-raw.rules.items)) (sym cast) ∙ c.in_err-new.ensures.fault in
    handed_on c.from_residual-in_err-new.result c.in_err-new.field-0.0 (settings_from (view c.args.value.now)) c.from_residual-in_err-new.ensures.1
    (value_at_fault (view c.args.value.now) (settings_of_parts (unsigned_abs c.in_ok-raw.raw) c.in_ok-raw.rules.items) c.in_err-new.field-0.0 c.in_ok-raw.ensures.ok fault)

pub returns-in_err-new-clause-memory : goal.returns-in_err-new-clause-memory
returns-in_err-new-clause-memory g c = whatever_error c.from_residual-in_err-new.result (settings_from (view c.args.value.now)) (no_fault (settings_from (view c.args.value.now)) (search rules))

pub returns-clause-ok : goal.returns-clause-ok
returns-clause-ok g c =
    let fits : SFits w64 c.in_ok-raw.raw = search rules in
    let cast : to_z w64 (of_z w64 c.in_ok-raw.raw) ≡ c.in_ok-raw.raw = to_z-of_z fits in
    let same : settings_of_parts (unsigned_abs c.in_ok-raw.raw) c.in_ok-raw.rules.items ≡ c.in_ok-new.field-0 =
    ap (λ (z : ℤ). settings_of_parts (unsigned_abs z) c.in_ok-raw.rules.items) (sym cast) ∙ sym c.in_ok-new.ensures.parts in
    value_faultless (view c.args.value.now) c.in_ok-new.field-0 (c.in_ok-raw.ensures.ok ∙ ap Some same) c.in_ok-new.ensures.faultless
