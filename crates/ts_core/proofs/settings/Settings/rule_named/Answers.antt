use Rattle.std.proofs.Common.{rules, tests, ◌≡◌, None, ◌∙◌, subst}
use Rattle.std.proofs.lemmas.Iterator.{YieldsList-from_slice}
use Rattle.std.proofs.lemmas.Iterator.Search.{position_from_yields_List}
use Rattle.std.proofs.lemmas.Iterator.Adapters.{position_from-zero}
use Rattle.ts_core.specs.facts.Facts.{same_text}
use Rattle.ts_core.specs.settings.Settings.{Rule, Settings}
use Rattle.ts_core.specs.settings.SettingsFaults.{settings_fault}
use Rattle.ts_core.proofs.settings.SettingsLaws.{settings_are}
use Rattle.ts_core.proofs.settings.RuleIndices.{if_found, if_missing}
use Rattle.ts_core.proofs.settings.Settings.rule_named.Goals as goal

pub returns-clause-some : goal.returns-clause-some
returns-clause-some g c =
    let name = c.args.name.now in
    let found = position_from_yields_List (λ (r : Rule). same_text r.name name) _ _ _ c.position.ensures.ran (YieldsList-from_slice c.args.self.now.rules cc) (λ x b q k. search (rules, tests)) in
    let distinct = (settings_are c.args.self.now (subst (λ (s : Settings). settings_fault s ≡ None) c.self.view_is c.self.invariant.faultless)).names in
    if_found name c.args.self.now.rules c.position.result distinct (found ∙ position_from-zero (λ (r : Rule). same_text r.name name) c.args.self.now.rules)

pub returns-clause-none : goal.returns-clause-none
returns-clause-none g c =
    let name = c.args.name.now in
    let found = position_from_yields_List (λ (r : Rule). same_text r.name name) _ _ _ c.position.ensures.ran (YieldsList-from_slice c.args.self.now.rules cc) (λ x b q k. search (rules, tests)) in
    if_missing name c.args.self.now.rules c.position.result (found ∙ position_from-zero (λ (r : Rule). same_text r.name name) c.args.self.now.rules)
