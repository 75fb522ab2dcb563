use Rattle.std.proofs.Common.{rules, ◌≡◌, ◌∙◌, true, false}
use Rattle.std.specs.Prelude.{is_some}
use Rattle.serde_json.specs.View.{view}
use Rattle.ts_core.specs.settings.SettingsFaults.{added_fault}
use Rattle.ts_core.specs.settings.SettingsTexts.{rule_parsed}
use Rattle.ts_core.specs.settings.SettingsFound.{rule_found}
use Rattle.ts_core.proofs.settings.FoundLemmas.{no_rule, added_found}
use Rattle.ts_core.proofs.settings.Settings.check_json.Goals as goal

pub returns-then-not-is_rule : goal.returns-then-not-is_rule
returns-then-not-is_rule g c = let none : is_some (rule_parsed (view c.args.value.now)) ≡ false = search rules in no_rule c.args.self.now (rule_parsed (view c.args.value.now)) none

pub returns : goal.returns
returns g c =
    let d = view c.args.value.now in
    let there : is_some (rule_parsed d) ≡ true = search rules in
    let parts : c.added_fault.result ≡ added_fault c.args.self.now (rule_found d) = search rules in
    parts ∙ added_found c.args.self.now d there
