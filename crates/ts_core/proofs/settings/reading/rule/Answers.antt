use Rattle.std.proofs.Common.{rules, arith, subst, ◌≢◌, ◌≤ℤ◌, pos, [], ◌≡◌, ◌∙◌, option_and_then, SFits, to_z, of_z, to_z-of_z, true, false, Some, None, codes, refl, sym, ap, string_bytes, map, unsigned_abs, List, ◌∷◌, Option, option_map}
use Rattle.std.specs.Int.{w64}
use Rattle.std.proofs.lemmas.Int.{ints}
use Rattle.ts_core.specs.facts.Facts.{Text}
use Rattle.serde_json.specs.View.{view, items_view}
use Rattle.ts_core.specs.settings.SettingsTexts.{has_keys, text_at, each, filled_text, rule_parsed, IsRefusal, if_not_empty}
use Rattle.std.proofs.Math.Bool.{and-false}
use Rattle.ts_core.proofs.settings.SettingsForms.{name_in, measurement_in, interval_in, offset_in, values_in, duration_in, rule_lacking, rule_parts_read, same_rule, refused_by}
use Rattle.std.specs.List.{AllByRecursion}
use Rattle.serde_json.specs.Data.{Items, no_items, item}
use Rattle.serde_json.specs.Find.{as_str}
use Rattle.ts_core.proofs.settings.reading.rule.Goals as goal

-- parsed texts of rules, which aren't empty
abbrev AreFilled : List Text → Type 0
AreFilled texts = AllByRecursion (λ (text : Text). text ≢ []) texts

filled : (o : Option Text) (text : Text) → option_and_then if_not_empty o ≡ Some text → text ≢ []
filled (Some (b ∷ bs)) text h e = absurd (let q : Some (b ∷ bs) ≡ Some text = h in cc)
filled _ text h e = absurd (let q : None ≡ Some text = h in cc)

one_more : (o : Option Text) (rest : Option (List Text)) (texts : List Text) → ((t : Text) → o ≡ Some t → t ≢ []) → ((ts : List Text) → rest ≡ Some ts → AreFilled ts)
    → option_and_then (λ (x : Text). option_map (λ (xs : List Text). x ∷ xs) rest) o ≡ Some texts → AreFilled texts
one_more (Some t) (Some ts) texts first others h = let q : Some (t ∷ ts) ≡ Some texts = h in let e : t ∷ ts ≡ texts = cc in subst AreFilled e (first t refl, others ts refl)
one_more _ rest texts first others h = absurd (let q : None ≡ Some texts = h in cc)

all_filled : (values : Items) (texts : List Text) → each filled_text values ≡ Some texts → AreFilled texts
all_filled no_items texts h = let q : Some [] ≡ Some texts = h in let e : [] ≡ texts = cc in subst AreFilled e tt
all_filled (item d ds) texts h = one_more (filled_text d) (each filled_text ds) texts (λ t. filled (as_str d) t) (λ ts. all_filled ds ts) h

pub returns-then-not-has_keys-clause-err : goal.returns-then-not-has_keys-clause-err
returns-then-not-has_keys-clause-err g c = let none : has_keys 6 (view c.args.value.now) ≡ false = search rules in (refl, rule_lacking _ (simp none))

pub returns-in_default-clause-err : goal.returns-in_default-clause-err
returns-in_default-clause-err g c = let none : name_in (view c.args.value.now) ≡ None = search rules in (refl, rule_lacking _ (simp (none, and-false)))

pub returns-in_default-filled_string_at-clause-err : goal.returns-in_default-filled_string_at-clause-err
returns-in_default-filled_string_at-clause-err g c = let none : measurement_in (view c.args.value.now) ≡ None = search rules in (refl, rule_lacking _ (simp (none, and-false)))

pub returns-in_default-interval_at-clause-err : goal.returns-in_default-interval_at-clause-err
returns-in_default-interval_at-clause-err g c = let none : interval_in (view c.args.value.now) ≡ None = search rules in (refl, rule_lacking _ (simp (none, and-false)))

pub returns-in_default-offset_at-clause-err : goal.returns-in_default-offset_at-clause-err
returns-in_default-offset_at-clause-err g c = let none : offset_in (view c.args.value.now) ≡ None = search rules in (refl, rule_lacking _ (simp (none, and-false)))

pub returns-in_default-values_at-clause-err : goal.returns-in_default-values_at-clause-err
returns-in_default-values_at-clause-err g c = let none : values_in (codes "keep") (view c.args.value.now) ≡ None = search rules in (refl, rule_lacking _ (simp (none, and-false)))

pub returns-in_default-keeping_at-clause-err : goal.returns-in_default-keeping_at-clause-err
returns-in_default-keeping_at-clause-err g c = let none : duration_in (view c.args.value.now) ≡ None = search rules in (refl, rule_lacking _ (simp (none, and-false)))

pub returns-in_err-kept_tags-clause-err : goal.returns-in_err-kept_tags-clause-err
returns-in_err-kept_tags-clause-err g c =
    let d = view c.args.value.now in
    let values = items_view c.in-Some-values_at.tags.now in
    let found : values_in (codes "keep") d ≡ Some values = sym c.in-Some-values_at.ensures in
    let refusal : IsRefusal c.in_err-kept_tags.field-0.0 (rule_parsed d) =
    refused_by c.in_err-kept_tags.field-0.0 (each filled_text values) (rule_parsed d) (λ none. rule_lacking d (simp (found, none, and-false))) c.in_err-kept_tags.ensures.err in
    search rules

pub invariant_of-result : goal.invariant_of-result
invariant_of-result g c =
    let d = view c.args.value.now in
    let fits : SFits w64 c.in-Some-keeping_at.duration = search rules in
    let lasting : pos 0 ≤ℤ c.in-Some-keeping_at.duration = c.in-Some-keeping_at.ensures.lasting in
    let lasts : unsigned_abs c.in-Some-keeping_at.duration ≡ c.unsigned_abs.result = search rules in
    record {
      measured = subst (λ (t : Text). t ≢ []) (sym c.in_ok-from_str-2.ensures.ok) (filled (text_at (codes "measurement") d) _ (sym c.in-Some-filled_string_at.ensures));
      tagged = all_filled (items_view c.in-Some-values_at.tags.now) _ c.in_ok-kept_tags.ensures.ok;
      interval = search rules;
      offset = search rules;
      duration = omega (arith, ints);
    }

pub returns-clause-ok : goal.returns-clause-ok
returns-clause-ok g c =
    let d = view c.args.value.now in
    let keys : has_keys 6 d ≡ true = search rules in
    let interval : c.in-Some-interval_at.interval ≡ to_z w64 (of_z w64 c.in-Some-interval_at.interval) = let fits : SFits w64 c.in-Some-interval_at.interval = search rules in sym (to_z-of_z fits) in
    let offset : c.in-Some-offset_at.offset ≡ to_z w64 (of_z w64 c.in-Some-offset_at.offset) = let fits : SFits w64 c.in-Some-offset_at.offset = search rules in sym (to_z-of_z fits) in
    let lasts : unsigned_abs c.in-Some-keeping_at.duration ≡ c.unsigned_abs.result = search rules in
    rule_parts_read d (items_view c.in-Some-values_at.tags.now) c.in-Some.name.now c.in-Some-filled_string_at.measurement.now c.in-Some-interval_at.interval c.in-Some-offset_at.offset
    (map string_bytes c.in_ok-kept_tags.kept_tags.items) c.in-Some-keeping_at.duration
    keys (sym c.in-Some.ensures) (sym c.in-Some-filled_string_at.ensures) (sym c.in-Some-interval_at.ensures) (sym c.in-Some-offset_at.ensures) (sym c.in-Some-values_at.ensures)
    c.in_ok-kept_tags.ensures.ok (sym c.in-Some-keeping_at.ensures.value)
    ∙ ap Some (same_rule (map string_bytes c.in_ok-kept_tags.kept_tags.items) (sym c.in_ok-from_str.ensures.ok) (sym c.in_ok-from_str-2.ensures.ok) interval offset lasts)
