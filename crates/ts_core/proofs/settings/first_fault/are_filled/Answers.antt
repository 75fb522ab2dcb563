use Rattle.std.proofs.Common.{rules, tests, ◌∙◌}
use Rattle.std.specs.Prelude.{is_some}
use Rattle.std.proofs.lemmas.Iterator.{YieldsList-from_slice}
use Rattle.std.proofs.lemmas.Iterator.Search.{all_from_yields_List}
use Rattle.serde_json.specs.View.{view}
use Rattle.ts_core.specs.settings.SettingsTexts.{filled_text}
use Rattle.ts_core.proofs.settings.FoundLemmas.{all_read}
use Rattle.ts_core.proofs.settings.first_fault.are_filled.Goals as goal

pub returns : goal.returns
returns c =
    let all = all_from_yields_List (λ v. is_some (filled_text (view v))) _ _ _ c.all.ensures.ran (YieldsList-from_slice c.args.values.now cc) (λ x b q k. search (rules, tests)) in
    all ∙ all_read filled_text c.args.values.now
