use Rattle.std.proofs.Common.{rules, tests, ◌∙◌, sym}
use Rattle.std.proofs.lemmas.Iterator.{YieldsList-from_slice}
use Rattle.std.proofs.lemmas.Iterator.Search.{any_from_yields_List}
use Rattle.serde_json.specs.View.{view}
use Rattle.ts_core.specs.facts.Facts.{same_text}
use Rattle.ts_core.specs.settings.SettingsFound.{text_found}
use Rattle.ts_core.proofs.lists.ListSteps.{any-map}
use Rattle.ts_core.proofs.settings.first_fault.is_among.Goals as goal

pub returns : goal.returns
returns c =
    let among = any_from_yields_List (λ v. same_text c.args.text.now (text_found (view v))) _ _ _ c.any.ensures.ran (YieldsList-from_slice c.args.values.now cc) (λ x b q k. search (rules, tests)) in
    among ∙ sym (any-map (same_text c.args.text.now) (λ v. text_found (view v)) c.args.values.now)
