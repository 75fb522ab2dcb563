-- Adding a rule by its text: success, or refusal of the text.
use Rattle.std.proofs.Common.{◌≡◌, ⊎_elim, ◌∙◌, ◌≤◌, ℤ, length, sym, ap, subst, refl, Option, Some, None, option_and_then, Result, Ok, Err, IfSome}
use Rattle.ts_core.specs.facts.Facts.{Text}
use Rattle.ts_core.specs.settings.Settings.{Rule, Settings}
use Rattle.ts_core.specs.settings.SettingsFaults.{added_fault}
use Rattle.serde_json.specs.Data.{Data}
use Rattle.serde_json.specs.Read.{read}
use Rattle.ts_core.specs.settings.SettingsFound.{fault_added}
use Rattle.ts_core.specs.settings.SettingsTexts.{rule_parsed, rule_read, IsRefusal}
use Rattle.ts_core.specs.declared.settings.settings_fault.SettingsError.{SettingsError}
use Rattle.ts_core.specs.declared.settings.settings_fault.SettingsError.TheVariants as errors
use Rattle.ts_core.specs.declared.settings.settings_fault.SettingsFault.{SettingsFault}
use Rattle.ts_core.specs.declared.settings.settings_fault.SettingsFault.TheVariants.{Form}
use Rattle.ts_core.specs.store.StoreData.{StoreData, store_settings}
use Rattle.ts_store.specs.rules.RulesChanged.{AddsRule}
use Rattle.ts_store.specs.rules.RuleTexts.{rule_for, rule_of_value, rule_or_fault, unless_added, IsErrorOf, ValueComes, AddsText, AddsValue}
use Rattle.ts_store.specs.declared.rules.rule_text.AddedRule.{AddedRule}
use Rattle.ts_store.proofs.rules.ShortNames.{added_short}

-- a value that is no rule, or found no memory
pub value_refused : (s : Settings) (d : Data) (e : SettingsError) → IsRefusal e (rule_parsed d) → IsErrorOf (rule_of_value s d) e
value_refused s d errors.OutOfMemory h = tt
value_refused s d (errors.Fault fault) h = ap (rule_or_fault s) h.1 ∙ ap Err (sym h.0)

-- a value with a fault
pub value_at_fault : (s : Settings) (o : Option Rule) (fault : SettingsFault) → Some fault ≡ fault_added s o → rule_or_fault s o ≡ Err fault
value_at_fault s None fault h = let q : Some fault ≡ Some Form = h in let e : fault ≡ Form = cc in ap Err (sym e)
value_at_fault s (Some r) fault h = ap (unless_added r) (sym h)

-- a text that isn't JSON, or found no memory
pub read_refused : (s : Settings) (text : Text) (e : SettingsError) → IsRefusal e (read text) → IsErrorOf (rule_for s text) e
unfolding rule_for rule_read
read_refused s text errors.OutOfMemory h = tt
read_refused s text (errors.Fault fault) h = ap (λ o. rule_or_fault s (option_and_then rule_parsed o)) h.1 ∙ ap Err (sym h.0)

-- the rule of a text is that of its value
pub text_added : (old new : StoreData) (text : Text) (d : Data) (r : Result AddedRule SettingsError) → read text ≡ Some d → AddsValue old new d r → AddsText old new text r
unfolding rule_for rule_read
text_added old new text d (Ok added) is a = record { rule = a.rule; read = ap (λ o. rule_or_fault (store_settings old) (option_and_then rule_parsed o)) is ∙ a.read; name = a.name; comes = a.comes }
text_added old new text d (Err errors.OutOfMemory) is a = a
text_added old new text d (Err (errors.Fault fault)) is a = (ap (λ o. rule_or_fault (store_settings old) (option_and_then rule_parsed o)) is ∙ a.0, a.1)

abbrev Added : Type 0
Added = Result ℤ SettingsError

abbrev added : ℤ → Added
added low = Ok low

abbrev refused_by : SettingsError → Added
refused_by e = Err e

-- a rule that was added had no fault
faultless : (v : Option SettingsFault) (old new : StoreData) (r : Rule) (low : ℤ) → added_fault (store_settings old) r ≡ v → AddsRule old new r (Ok low) → added_fault (store_settings old) r ≡ None
faultless None old new r low is a = is
faultless (Some fault) old new r low is a = absurd (let P : Option SettingsFault → Type 0 = λ o. IfSome o (λ f. added low ≡ refused_by (errors.Fault f)) in let q : added low ≡ refused_by (errors.Fault fault) = subst P is a.refused in cc)

pub value_came : (old new : StoreData) (d : Data) (r : Rule) (added : AddedRule) → rule_parsed d ≡ Some r → added.name.bytes ≡ r.name → AddsRule old new r (Ok added.low) → ValueComes old new d added
value_came old new d r added read name a = record {
  rule = r;
  read = ap (rule_or_fault (store_settings old)) read ∙ ap (unless_added r) (faultless (added_fault (store_settings old) r) old new r added.low refl a);
  name = name;
  comes = a.ok;
}

pub name_fits : (old new : StoreData) (r : Rule) (low : ℤ) → AddsRule old new r (Ok low) → length r.name ≤ 32
name_fits old new r low a = added_short (store_settings old) r (faultless (added_fault (store_settings old) r) old new r low refl a)

-- the fault of a rule that was refused
fault_is : (v : Option SettingsFault) (old new : StoreData) (r : Rule) (fault : SettingsFault) → added_fault (store_settings old) r ≡ v → AddsRule old new r (Err (errors.Fault fault)) → added_fault (store_settings old) r ≡ Some fault
fault_is None old new r fault is a =
    ⊎_elim {C = added_fault (store_settings old) r ≡ Some fault}
    (λ ok. absurd (let q : refused_by (errors.Fault fault) ≡ added ok.0 = ok.1 in cc))
    (λ memory. absurd (let q : refused_by (errors.Fault fault) ≡ refused_by errors.OutOfMemory = memory in cc))
    (a.taken (rw is refl))
fault_is (Some other) old new r fault is a =
    let told : refused_by (errors.Fault fault) ≡ refused_by (errors.Fault other) = let P : Option SettingsFault → Type 0 = λ o. IfSome o (λ f. refused_by (errors.Fault fault) ≡ refused_by (errors.Fault f)) in subst P is a.refused in
    is ∙ (let same : other ≡ fault = cc in ap Some same)

pub rule_refused : (old new : StoreData) (d : Data) (r : Rule) (e : SettingsError) → rule_parsed d ≡ Some r → AddsRule old new r (Err e) → IsErrorOf (rule_of_value (store_settings old) d) e × (new ≡ old)
rule_refused old new d r errors.OutOfMemory read a = (tt, a.err)
rule_refused old new d r (errors.Fault fault) read a = (ap (rule_or_fault (store_settings old)) read ∙ ap (unless_added r) (fault_is (added_fault (store_settings old) r) old new r fault refl a), a.err)
