use Rattle.std.proofs.Common.{rules, ◌≡◌, ◌∙◌, true, ap}
use Rattle.std.specs.Prelude.{is_some}
use Rattle.serde_json.specs.View.{view}
use Rattle.ts_core.specs.settings.SettingsFaults.{settings_fault}
use Rattle.ts_core.specs.settings.SettingsTexts.{settings_parsed}
use Rattle.ts_core.specs.settings.SettingsFound.{settings_found, rules_found}
use Rattle.ts_core.proofs.settings.SettingsForms.{settings_of_parts}
use Rattle.ts_core.proofs.settings.FoundLemmas.{fault_found}
use Rattle.ts_core.proofs.settings.first_fault.first_fault.Goals as goal

pub returns : goal.returns
returns c =
    let d = view c.args.value.now in
    let there : is_some (settings_parsed d) ≡ true = search rules in
    c.settings_fault.ensures
    ∙ ap (λ n. settings_fault (settings_of_parts n (rules_found c.rules_of.result.now))) c.raw_duration_of.ensures
    ∙ ap (λ rs. settings_fault (settings_of_parts (settings_found d).raw_duration rs)) c.rules_of.ensures
    ∙ fault_found d there
