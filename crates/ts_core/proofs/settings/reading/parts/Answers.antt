use Rattle.std.proofs.Common.{rules, ◌≡◌, ◌∙◌, ℤ, true, false, Some, None, codes, refl, sym, ap, unsigned_abs, SFits, to_z, of_z, to_z-of_z}
use Rattle.std.specs.Int.{w64}
use Rattle.serde_json.specs.View.{view, items_view}
use Rattle.ts_core.specs.settings.SettingsTexts.{has_keys, each, rule_parsed, settings_parsed, IsRefusal}
use Rattle.std.proofs.Math.Bool.{and-false}
use Rattle.ts_core.proofs.settings.SettingsForms.{values_in, raw_in, settings_lacking, parts_read, settings_of_parts, refused_by}
use Rattle.ts_core.proofs.settings.reading.parts.Goals as goal

pub returns-then-not-has_keys-clause-err : goal.returns-then-not-has_keys-clause-err
returns-then-not-has_keys-clause-err g c = let none : has_keys 2 (view c.args.value.now) ≡ false = search rules in (refl, settings_lacking _ (simp none))

pub returns-in_default-clause-err : goal.returns-in_default-clause-err
returns-in_default-clause-err g c = let none : raw_in (view c.args.value.now) ≡ None = search rules in (refl, settings_lacking _ (simp (none, and-false)))

pub returns-in_default-values_at-clause-err : goal.returns-in_default-values_at-clause-err
returns-in_default-values_at-clause-err g c = let none : values_in (codes "rules") (view c.args.value.now) ≡ None = search rules in (refl, settings_lacking _ (simp (none, and-false)))

pub returns-in_err-rules-clause-err : goal.returns-in_err-rules-clause-err
returns-in_err-rules-clause-err g c =
    let d = view c.args.value.now in
    let values = items_view c.in-Some-values_at.values.now in
    let found : values_in (codes "rules") d ≡ Some values = sym c.in-Some-values_at.ensures in
    let refusal : IsRefusal c.in_err-rules.field-0.0 (settings_parsed d) =
    refused_by c.in_err-rules.field-0.0 (each rule_parsed values) (settings_parsed d) (λ none. settings_lacking d (simp (found, none, and-false))) c.in_err-rules.ensures.err in
    search rules

pub returns-clause-ok : goal.returns-clause-ok
returns-clause-ok g c =
    let d = view c.args.value.now in
    let keys : has_keys 2 d ≡ true = search rules in
    let raw : c.in-Some.raw ≡ to_z w64 (of_z w64 c.in-Some.raw) = let fits : SFits w64 c.in-Some.raw = search rules in sym (to_z-of_z fits) in
    parts_read d (items_view c.in-Some-values_at.values.now) c.in-Some.raw c.in_ok-rules.field-0.items keys (sym c.in-Some.ensures.value) (sym c.in-Some-values_at.ensures) c.in_ok-rules.ensures.ok
    ∙ ap (λ (z : ℤ). Some (settings_of_parts (unsigned_abs z) c.in_ok-rules.field-0.items)) raw
