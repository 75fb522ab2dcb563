use Rattle.std.proofs.Common.{rules, ◌≡◌, ◌∙◌, true, false, None, Some, codes, sym, ap}
use Rattle.std.specs.Prelude.{is_some}
use Rattle.serde_json.specs.View.{view, items_view}
use Rattle.ts_core.specs.settings.SettingsTexts.{has_keys, each, filled_text}
use Rattle.ts_core.proofs.settings.SettingsForms.{name_in, measurement_in, interval_in, offset_in, values_in, rule_form}
use Rattle.std.proofs.Math.Bool.{and-false}
use Rattle.ts_core.proofs.settings.first_fault.is_rule.Goals as goal

pub returns-then-not-has_keys : goal.returns-then-not-has_keys
returns-then-not-has_keys c = let none : has_keys 6 (view c.args.value.now) ≡ false = search rules in sym (rule_form _ ∙ simp none)

pub returns-in_default : goal.returns-in_default
returns-in_default c = let none : name_in (view c.args.value.now) ≡ None = search rules in sym (rule_form _ ∙ simp (none, and-false))

pub returns-in_default-filled_string_at : goal.returns-in_default-filled_string_at
returns-in_default-filled_string_at c = let none : measurement_in (view c.args.value.now) ≡ None = search rules in sym (rule_form _ ∙ simp (none, and-false))

pub returns-in_default-interval_at : goal.returns-in_default-interval_at
returns-in_default-interval_at c = let none : interval_in (view c.args.value.now) ≡ None = search rules in sym (rule_form _ ∙ simp (none, and-false))

pub returns-in_default-offset_at : goal.returns-in_default-offset_at
returns-in_default-offset_at c = let none : offset_in (view c.args.value.now) ≡ None = search rules in sym (rule_form _ ∙ simp (none, and-false))

pub returns-in_default-values_at : goal.returns-in_default-values_at
returns-in_default-values_at c = let none : values_in (codes "keep") (view c.args.value.now) ≡ None = search rules in sym (rule_form _ ∙ simp (none, and-false))

pub returns-then-not-are_filled : goal.returns-then-not-are_filled
returns-then-not-are_filled c =
    let d = view c.args.value.now in
    let values = items_view c.in-Some-values_at.tags.now in
    let found : values_in (codes "keep") d ≡ Some values = sym c.in-Some-values_at.ensures in
    let empty : is_some (each filled_text values) ≡ false = search rules in
    sym (rule_form d ∙ simp (found, empty, and-false))

pub returns : goal.returns
returns c =
    let d = view c.args.value.now in
    let values = items_view c.in-Some-values_at.tags.now in
    let found : values_in (codes "keep") d ≡ Some values = sym c.in-Some-values_at.ensures in
    let keys : has_keys 6 d ≡ true = search rules in
    let all : is_some (each filled_text values) ≡ true = search rules in
    c.is_some.ensures ∙ ap is_some c.keeping_at.ensures.value
    ∙ sym (rule_form d ∙ simp (keys, sym c.in-Some.ensures, sym c.in-Some-filled_string_at.ensures, sym c.in-Some-interval_at.ensures, sym c.in-Some-offset_at.ensures, found, all))
