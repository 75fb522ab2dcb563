use Rattle.std.proofs.Common.{rules, tests, ◌∙◌}
use Rattle.std.specs.Prelude.{is_some}
use Rattle.std.proofs.lemmas.Iterator.{YieldsList-from_slice}
use Rattle.std.proofs.lemmas.Iterator.Search.{all_from_yields_List}
use Rattle.serde_json.specs.View.{view}
use Rattle.ts_core.specs.settings.SettingsTexts.{rule_parsed}
use Rattle.ts_core.proofs.settings.FoundLemmas.{all_read}
use Rattle.ts_core.proofs.settings.first_fault.are_rules.Goals as goal

pub returns : goal.returns
returns c =
    let all = all_from_yields_List (λ v. is_some (rule_parsed (view v))) _ _ _ c.all.ensures.ran (YieldsList-from_slice c.args.values.now cc) (λ x b q k. search (rules, tests)) in
    all ∙ all_read rule_parsed c.args.values.now
