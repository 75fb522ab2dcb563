use Rattle.std.proofs.Common.{rules, ◌≡◌, ◌∙◌, true, false, None, Some, codes, sym}
use Rattle.serde_json.specs.View.{view, items_view}
use Rattle.ts_core.specs.settings.SettingsTexts.{has_keys}
use Rattle.ts_core.proofs.settings.SettingsForms.{raw_in, values_in, settings_form}
use Rattle.std.proofs.Math.Bool.{and-false}
use Rattle.ts_core.proofs.settings.first_fault.are_settings.Goals as goal

pub returns-then-not-has_keys : goal.returns-then-not-has_keys
returns-then-not-has_keys c = let none : has_keys 2 (view c.args.value.now) ≡ false = search rules in sym (settings_form _ ∙ simp none)

pub returns-in_default : goal.returns-in_default
returns-in_default c = let none : raw_in (view c.args.value.now) ≡ None = search rules in sym (settings_form _ ∙ simp (none, and-false))

pub returns-in_default-values_at : goal.returns-in_default-values_at
returns-in_default-values_at c = let none : values_in (codes "rules") (view c.args.value.now) ≡ None = search rules in sym (settings_form _ ∙ simp (none, and-false))

pub returns : goal.returns
returns c =
    let d = view c.args.value.now in
    let values = items_view c.in-Some-values_at.rules.now in
    let found : values_in (codes "rules") d ≡ Some values = sym c.in-Some-values_at.ensures in
    let keys : has_keys 2 d ≡ true = search rules in
    c.are_rules.ensures ∙ sym (settings_form d ∙ simp (keys, sym c.in-Some.ensures.value, found))
