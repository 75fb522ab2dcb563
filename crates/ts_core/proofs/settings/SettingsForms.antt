-- The parts of a text of settings: a missing one is a fault of the form.
use Rattle.std.proofs.Common.{◌≡◌, ◌&&◌, is_some, ℤ, ℕ, Bool, true, false, List, Option, Some, None, Result, Ok, Err, option_and_then, unsigned_abs, codes, refl, sym, ap, ◌∙◌, IfErr}
use Rattle.std.specs.Result.{IsErrAnd, IsOk, result_err}
use Rattle.serde_json.specs.Data.{Data, Items}
use Rattle.serde_json.specs.Find.{get, as_array}
use Rattle.serde_json.specs.Read.{read}
use Rattle.ts_core.specs.facts.Facts.{Text}
use Rattle.ts_core.specs.settings.Settings.{Rule, Settings}
use Rattle.ts_core.specs.settings.SettingsFaults.{settings_fault}
use Rattle.ts_core.specs.facts.Durations.{span_of, offset_of, keeping_of}
use Rattle.ts_core.specs.settings.SettingsFound.{settings_from}
use Rattle.ts_core.specs.settings.SettingsTexts.{has_keys, text_at, if_not_empty, filled_text, each, rule_with, rule_parsed, settings_with, settings_parsed, rule_read, settings_or_fault, unless_fault, settings_read, IsRefusal}
use Rattle.ts_core.specs.declared.settings.settings_fault.SettingsError.{SettingsError}
use Rattle.ts_core.specs.declared.settings.settings_fault.SettingsError.TheVariants.{Fault, OutOfMemory}
use Rattle.ts_core.specs.declared.settings.settings_fault.SettingsFault.{SettingsFault}
use Rattle.ts_core.specs.declared.settings.settings_fault.SettingsFault.TheVariants.{Form}

pub none_of : {X : Type 0} (o : Option X) → is_some o ≡ false → o ≡ None
none_of None h = refl
none_of (Some x) h = absurd (let q : true ≡ false = h in cc)

-- ---- a rule

abbrev pub rule_of_parts : Text → Text → ℤ → ℤ → List Text → ℕ → Rule
rule_of_parts n m i o tags l = record { name = n; measurement = m; interval = i; offset = o; kept_tags = tags; duration = l }

abbrev pub name_in : Data → Option Text
name_in d = text_at (codes "name") d

abbrev pub measurement_in : Data → Option Text
measurement_in d = option_and_then if_not_empty (text_at (codes "measurement") d)

abbrev pub interval_in : Data → Option ℤ
interval_in d = option_and_then span_of (text_at (codes "interval") d)

abbrev pub offset_in : Data → Option ℤ
offset_in d = option_and_then offset_of (text_at (codes "offset") d)

abbrev pub values_in : Text → Data → Option Items
values_in key d = option_and_then as_array (get key d)

abbrev pub tags_in : Data → Option (List Text)
tags_in d = option_and_then (each filled_text) (values_in (codes "keep") d)

abbrev pub duration_in : Data → Option ℤ
duration_in d = option_and_then keeping_of (text_at (codes "duration") d)

-- a rule is there with all of its parts
rule_there : (b : Bool) (n m : Option Text) (i o : Option ℤ) (t : Option (List Text)) (l : Option ℤ)
    → is_some (rule_with b n m i o t l) ≡ (b && (is_some n && (is_some m && (is_some i && (is_some o && (is_some t && is_some l))))))
rule_there true (Some n) (Some m) (Some i) (Some o) (Some t) (Some l) = refl
rule_there _ n m i o t l = refl

-- a value has each part of a rule
abbrev pub has_rule : Data → Bool
has_rule d = has_keys 6 d && (is_some (name_in d) && (is_some (measurement_in d) && (is_some (interval_in d) && (is_some (offset_in d) && (is_some (tags_in d) && is_some (duration_in d))))))

pub rule_form : (d : Data) → is_some (rule_parsed d) ≡ has_rule d
unfolding rule_parsed
rule_form d = rule_there (has_keys 6 d) (name_in d) (measurement_in d) (interval_in d) (offset_in d) (tags_in d) (duration_in d)

pub rule_lacking : (d : Data) → has_rule d ≡ false → rule_parsed d ≡ None
rule_lacking d e = none_of (rule_parsed d) (rule_form d ∙ e)

pub rule_parts_read : (d : Data) (values : Items) (name measurement : Text) (interval offset : ℤ) (tags : List Text) (duration : ℤ)
    → has_keys 6 d ≡ true → name_in d ≡ Some name → measurement_in d ≡ Some measurement → interval_in d ≡ Some interval → offset_in d ≡ Some offset
    → values_in (codes "keep") d ≡ Some values → each filled_text values ≡ Some tags → duration_in d ≡ Some duration
    → rule_parsed d ≡ Some (record { name = name; measurement = measurement; interval = interval; offset = offset; kept_tags = tags; duration = unsigned_abs duration })
unfolding rule_parsed
rule_parts_read d values name measurement interval offset tags duration keys en em ei eo ev et el =
    let tagged : tags_in d ≡ Some tags = ap (option_and_then (each filled_text)) ev ∙ et in rw (keys, en, em, ei, eo, tagged, el) refl

pub same_rule : {n n' m m' : Text} {i i' o o' : ℤ} {l l' : ℕ} (tags : List Text) → n ≡ n' → m ≡ m' → i ≡ i' → o ≡ o' → l ≡ l' → rule_of_parts n m i o tags l ≡ rule_of_parts n' m' i' o' tags l'
same_rule tags en em ei eo el = rw (en, em, ei, eo, el) refl

-- ---- settings

abbrev pub settings_of_parts : ℕ → List Rule → Settings
settings_of_parts raw rules = record { raw_duration = raw; rules = rules }

abbrev pub raw_in : Data → Option ℤ
raw_in d = option_and_then keeping_of (text_at (codes "raw") d)

abbrev pub rules_in : Data → Option (List Rule)
rules_in d = option_and_then (each rule_parsed) (values_in (codes "rules") d)

settings_there : (b : Bool) (raw : Option ℤ) (rs : Option (List Rule)) → is_some (settings_with b raw rs) ≡ (b && (is_some raw && is_some rs))
settings_there true (Some raw) (Some rs) = refl
settings_there _ raw rs = refl

abbrev pub has_settings : Data → Bool
has_settings d = has_keys 2 d && (is_some (raw_in d) && is_some (rules_in d))

pub settings_form : (d : Data) → is_some (settings_parsed d) ≡ has_settings d
unfolding settings_parsed
settings_form d = settings_there (has_keys 2 d) (raw_in d) (rules_in d)

pub settings_lacking : (d : Data) → has_settings d ≡ false → settings_parsed d ≡ None
settings_lacking d e = none_of (settings_parsed d) (settings_form d ∙ e)

pub parts_read : (d : Data) (values : Items) (raw : ℤ) (rules : List Rule) → has_keys 2 d ≡ true → raw_in d ≡ Some raw
    → values_in (codes "rules") d ≡ Some values → each rule_parsed values ≡ Some rules
    → settings_parsed d ≡ Some (record { raw_duration = unsigned_abs raw; rules = rules })
unfolding settings_parsed
parts_read d values raw rules keys er ev es = let listed : rules_in d ≡ Some rules = ap (option_and_then (each rule_parsed)) ev ∙ es in rw (keys, er, listed) refl

-- ---- the text

-- a text that a part refuses is refused by the whole
pub refused_by : {X Y : Type 0} (e : SettingsError) (part : Option X) (whole : Option Y) → (part ≡ None → whole ≡ None) → IsRefusal e part → IsRefusal e whole
refused_by OutOfMemory part whole lacks r = tt
refused_by (Fault fault) part whole lacks r = (r.0, lacks r.1)

-- a rule by itself is that of the text's value
pub no_rule_data : (text : Text) → read text ≡ None → rule_read text ≡ None
unfolding rule_read
no_rule_data text none = ap (option_and_then rule_parsed) none

pub rule_data : (text : Text) (d : Data) → read text ≡ Some d → rule_parsed d ≡ rule_read text
unfolding rule_read
rule_data text d is = ap (option_and_then rule_parsed) (sym is)

pub form_told : (o : Option Settings) (e : SettingsError) (f : SettingsFault) → IsRefusal e o → e ≡ Fault f → settings_or_fault o ≡ Err f
form_told o OutOfMemory f r is = absurd (cc)
form_told o (Fault g) f r is = let same : f ≡ Form = cc in rw (r.1, same) refl

pub no_data : (text : Text) (e : SettingsError) (f : SettingsFault) → IsRefusal e (read text) → e ≡ Fault f → settings_read text ≡ Err f
unfolding settings_read
no_data text e f r is = form_told (option_and_then settings_parsed (read text)) e f (refused_by e (read text) (option_and_then settings_parsed (read text)) (λ none. ap (option_and_then settings_parsed) none) r) is

-- the settings of a text are those of its value
pub value_read : (text : Text) (d : Data) → read text ≡ Some d → settings_from d ≡ settings_read text
unfolding settings_read
value_read text d is = ap (λ o. settings_or_fault (option_and_then settings_parsed o)) (sym is)

pub value_at_fault : (d : Data) (s : Settings) (f : SettingsFault) → settings_parsed d ≡ Some s → settings_fault s ≡ Some f → settings_from d ≡ Err f
value_at_fault d s f so fault = ap settings_or_fault so ∙ ap (unless_fault s) fault

pub value_faultless : (d : Data) (s : Settings) → settings_parsed d ≡ Some s → settings_fault s ≡ None → settings_from d ≡ Ok s
value_faultless d s so none = ap settings_or_fault so ∙ ap (unless_fault s) none

pub only_fault : (out : Result Settings SettingsFault) (fault f : SettingsFault) → Some fault ≡ result_err out → Fault fault ≡ Fault f → out ≡ Err f
only_fault (Ok s) fault f is same = absurd (let q : Some fault ≡ None = is in cc)
only_fault (Err g) fault f is same = let q : Some fault ≡ Some g = is in let e : g ≡ f = cc in ap Err e

pub no_fault : (out : Result Settings SettingsFault) → None ≡ result_err out → IsOk out
no_fault (Ok s) is = refl
no_fault (Err f) is = absurd (let q : None ≡ Some f = is in cc)

pub whatever_error : {X : Type 0} (r : Result X SettingsError) (out : Result Settings SettingsFault) → IsOk out → IfErr r (λ e. e ≡ OutOfMemory → IsOk out)
whatever_error (Ok x) out ok = tt
whatever_error (Err e) out ok = λ same. ok

pub faultless : (text : Text) (d : Data) (s : Settings) → read text ≡ Some d → settings_parsed d ≡ Some s → settings_fault s ≡ None → settings_read text ≡ Ok s
unfolding settings_read
faultless text d s is so none = ap (λ o. settings_or_fault (option_and_then settings_parsed o)) is ∙ ap settings_or_fault so ∙ ap (unless_fault s) none

-- a fault that `?` hands on is the fault
pub handed_on : {X : Type 0} (r : Result X SettingsError) (fault : SettingsFault) (out : Result Settings SettingsFault) → IsErrAnd r (λ e. e ≡ Fault fault) → out ≡ Err fault
    → IfErr r (λ e. (f : SettingsFault) → e ≡ Fault f → out ≡ Err f)
handed_on (Ok x) fault out h is = tt
handed_on (Err e) fault out h is = λ f same. let one : fault ≡ f = cc in is ∙ ap Err one

pub error_handed_on : {X : Type 0} (r : Result X SettingsError) (error : SettingsError) (out : Result Settings SettingsFault) → IsErrAnd r (λ e. e ≡ error)
    → ((f : SettingsFault) → error ≡ Fault f → out ≡ Err f) → IfErr r (λ e. (f : SettingsFault) → e ≡ Fault f → out ≡ Err f)
error_handed_on (Ok x) error out h settings_or_fault = tt
error_handed_on (Err e) error out h settings_or_fault = λ f same. settings_or_fault f (sym h ∙ same)
