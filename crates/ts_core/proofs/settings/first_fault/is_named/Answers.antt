use Rattle.std.proofs.Common.{rules, tests, ◌∙◌, sym}
use Rattle.std.proofs.lemmas.Iterator.{YieldsList-from_slice}
use Rattle.std.proofs.lemmas.Iterator.Search.{any_from_yields_List}
use Rattle.serde_json.specs.View.{view}
use Rattle.ts_core.specs.facts.Facts.{same_text}
use Rattle.ts_core.specs.settings.Settings.{Rule}
use Rattle.ts_core.specs.settings.SettingsFound.{rule_found}
use Rattle.ts_core.proofs.lists.ListSteps.{any-map}
use Rattle.ts_core.proofs.settings.first_fault.is_named.Goals as goal

pub returns : goal.returns
returns c =
    let named = any_from_yields_List (λ v. same_text (rule_found (view v)).name c.args.name.now) _ _ _ c.any.ensures.ran (YieldsList-from_slice c.args.rules.now cc) (λ x b q k. search (rules, tests)) in
    named ∙ sym (any-map (λ (r : Rule). same_text r.name c.args.name.now) (λ v. rule_found (view v)) c.args.rules.now)
