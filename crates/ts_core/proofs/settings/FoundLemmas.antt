-- The parts that a JSON value has of settings: those of the settings that it is.
use Rattle.std.proofs.Common.{◌≡◌, ◌&&◌, ℤ, pos, unsigned_abs, Bool, true, false, List, [], ◌∷◌, map, Option, Some, None, option_map, option_and_then, codes, refl, sym, ap, ◌∙◌}
use Rattle.std.specs.Prelude.{unwrap_or, is_some}
use Rattle.std.specs.Result.{result_err}
use Rattle.std.specs.List.{list_all}
use Rattle.serde_json.specs.Data.{Data, Items, no_items, item}
use Rattle.serde_json.specs.Find.{get, as_str, as_array}
use Rattle.serde_json.specs.View.{view, items_view}
use Rattle.serde_json.specs.declared.value.Value.{Value}
use Rattle.ts_core.specs.facts.Facts.{Text}
use Rattle.ts_core.specs.settings.Settings.{Rule, Settings}
use Rattle.ts_core.specs.settings.SettingsFaults.{settings_fault, added_fault}
use Rattle.ts_core.specs.settings.SettingsTexts.{has_keys, if_not_empty, filled_text, each, rule_with, rule_parsed, settings_with, settings_parsed, unless_fault, settings_or_fault}
use Rattle.ts_core.specs.settings.SettingsFound.{text_found, of_each, items_in, rule_found, rules_found, texts_found, settings_found, settings_from, fault_added}
use Rattle.ts_core.specs.declared.settings.settings_fault.SettingsFault.{SettingsFault}
use Rattle.ts_core.specs.declared.settings.settings_fault.SettingsFault.TheVariants.{Form}
pub use Rattle.ts_core.proofs.settings.SettingsForms.{none_of}
use Rattle.ts_core.proofs.settings.SettingsForms.{rule_of_parts, settings_of_parts, name_in, measurement_in, interval_in, offset_in, tags_in, duration_in, raw_in}

-- ---- items

pub found_of_each : {X : Type 0} (f : Data → X) (vs : List Value) → of_each f (items_view vs) ≡ map (λ v. f (view v)) vs
found_of_each f [] = refl
found_of_each f (v ∷ vs) = ap (λ xs. f (view v) ∷ xs) (found_of_each f vs)

one_is : {X : Type 0} (o : Option X) (rest : Option (List X)) (y : X) (ys xs : List X) → ((x : X) → o ≡ Some x → y ≡ x) → ((zs : List X) → rest ≡ Some zs → ys ≡ zs)
    → option_and_then (λ (x : X). option_map (λ (zs : List X). x ∷ zs) rest) o ≡ Some xs → y ∷ ys ≡ xs
one_is (Some x) (Some zs) y ys xs first others h =
    let q : Some (x ∷ zs) ≡ Some xs = h in
    let e : x ∷ zs ≡ xs = cc in
    ap (λ k. k ∷ ys) (first x refl) ∙ ap (λ ks. x ∷ ks) (others zs refl) ∙ e
one_is _ rest y ys xs first others h = absurd (let q : None ≡ Some xs = h in cc)

each_is : {X : Type 0} (f : Data → Option X) (g : Data → X) → ((d : Data) (x : X) → f d ≡ Some x → g d ≡ x) → (ds : Items) (xs : List X) → each f ds ≡ Some xs → of_each g ds ≡ xs
each_is f g same no_items xs h = let q : Some [] ≡ Some xs = h in cc
each_is f g same (item d ds) xs h = one_is (f d) (each f ds) (g d) (of_each g ds) xs (λ x. same d x) (λ zs. each_is f g same ds zs) h

both_read : {X : Type 0} (o : Option X) (rest : Option (List X)) (b : Bool) → b ≡ is_some rest → (is_some o && b) ≡ is_some (option_and_then (λ (x : X). option_map (λ (zs : List X). x ∷ zs) rest) o)
both_read None rest b h = refl
both_read (Some x) None b h = h
both_read (Some x) (Some zs) b h = h

-- all items are parsed if each is
pub all_read : {X : Type 0} (f : Data → Option X) (vs : List Value) → list_all (λ v. is_some (f (view v))) vs ≡ is_some (each f (items_view vs))
all_read f [] = refl
all_read f (v ∷ vs) = both_read (f (view v)) (each f (items_view vs)) (list_all (λ w. is_some (f (view w))) vs) (all_read f vs)

-- ---- a rule

filled_is : (o : Option Text) (t : Text) → option_and_then if_not_empty o ≡ Some t → unwrap_or o [] ≡ t
filled_is (Some (b ∷ bs)) t h = let q : Some (b ∷ bs) ≡ Some t = h in cc
filled_is _ t h = absurd (let q : None ≡ Some t = h in cc)

tags_are : (o : Option Items) (ts : List Text) → option_and_then (each filled_text) o ≡ Some ts → of_each text_found (unwrap_or o no_items) ≡ ts
tags_are None ts h = absurd (let q : None ≡ Some ts = h in cc)
tags_are (Some ds) ts h = each_is filled_text text_found (λ d t. filled_is (as_str d) t) ds ts h

abbrev loose : Option Text → Option Text → Option ℤ → Option ℤ → List Text → Option ℤ → Rule
loose n m i o tags l = rule_of_parts (unwrap_or n []) (unwrap_or m []) (unwrap_or i (pos 0)) (unwrap_or o (pos 0)) tags (unsigned_abs (unwrap_or l (pos 0)))

loose_is : (b : Bool) (n m : Option Text) (i o : Option ℤ) (t : Option (List Text)) (l : Option ℤ) (tags : List Text) (r : Rule) → ((ts : List Text) → t ≡ Some ts → tags ≡ ts)
    → rule_with b n m i o t l ≡ Some r → loose n m i o tags l ≡ r
loose_is true (Some n) (Some m) (Some i) (Some o) (Some t) (Some l) tags r same h =
    let q : Some (rule_of_parts n m i o t (unsigned_abs l)) ≡ Some r = h in
    let e : rule_of_parts n m i o t (unsigned_abs l) ≡ r = cc in
    ap (λ ts. rule_of_parts n m i o ts (unsigned_abs l)) (same t refl) ∙ e
loose_is _ n m i o t l tags r same h = absurd (let q : None ≡ Some r = h in cc)

rule_is : (d : Data) (r : Rule) → rule_parsed d ≡ Some r → rule_found d ≡ r
unfolding rule_parsed rule_found
rule_is d r h = loose_is (has_keys 6 d) (name_in d) (measurement_in d) (interval_in d) (offset_in d) (tags_in d) (duration_in d) (of_each text_found (items_in (codes "keep") d)) r
    (λ ts. tags_are (option_and_then as_array (get (codes "keep") d)) ts) h

-- ---- settings

rules_are : (o : Option Items) (rs : List Rule) → option_and_then (each rule_parsed) o ≡ Some rs → of_each rule_found (unwrap_or o no_items) ≡ rs
rules_are None rs h = absurd (let q : None ≡ Some rs = h in cc)
rules_are (Some ds) rs h = each_is rule_parsed rule_found rule_is ds rs h

loose_settings : (b : Bool) (raw : Option ℤ) (t : Option (List Rule)) (rules : List Rule) (s : Settings) → ((rs : List Rule) → t ≡ Some rs → rules ≡ rs)
    → settings_with b raw t ≡ Some s → settings_of_parts (unsigned_abs (unwrap_or raw (pos 0))) rules ≡ s
loose_settings true (Some raw) (Some t) rules s same h =
    let q : Some (settings_of_parts (unsigned_abs raw) t) ≡ Some s = h in
    let e : settings_of_parts (unsigned_abs raw) t ≡ s = cc in
    ap (λ rs. settings_of_parts (unsigned_abs raw) rs) (same t refl) ∙ e
loose_settings _ raw t rules s same h = absurd (let q : None ≡ Some s = h in cc)

settings_is : (d : Data) (s : Settings) → settings_parsed d ≡ Some s → settings_found d ≡ s
unfolding settings_parsed settings_found
settings_is d s h = loose_settings (has_keys 2 d) (raw_in d) (option_and_then (each rule_parsed) (option_and_then as_array (get (codes "rules") d))) (of_each rule_found (items_in (codes "rules") d)) s
    (λ rs. rules_are (option_and_then as_array (get (codes "rules") d)) rs) h

-- ---- faults

unless_is : (s : Settings) (v : Option SettingsFault) → result_err (unless_fault s v) ≡ v
unless_is s None = refl
unless_is s (Some fault) = refl

-- a value without the form of settings
pub no_form : (d : Data) → is_some (settings_parsed d) ≡ false → Some Form ≡ result_err (settings_from d)
no_form d h = sym (ap (λ o. result_err (settings_or_fault o)) (none_of (settings_parsed d) h))

found_is : (o : Option Settings) (found : Settings) → ((s : Settings) → o ≡ Some s → found ≡ s) → is_some o ≡ true → settings_fault found ≡ result_err (settings_or_fault o)
found_is None found same h = absurd (let q : false ≡ true = h in cc)
found_is (Some s) found same h = ap settings_fault (same s refl) ∙ sym (unless_is s (settings_fault s))

-- the first fault is that of the parts
pub fault_found : (d : Data) → is_some (settings_parsed d) ≡ true → settings_fault (settings_found d) ≡ result_err (settings_from d)
fault_found d h = found_is (settings_parsed d) (settings_found d) (settings_is d) h

-- the items of a key, as the list that was found
pub unwrapped : {X Y : Type 0} (f : X → Y) (o : Option X) (x r : X) (p : Option Y) (y : Y) → r ≡ unwrap_or o x → option_map f o ≡ p → f x ≡ y → unwrap_or p y ≡ f r
unwrapped f None x r p y er ep ey = ap (λ q. unwrap_or q y) (sym ep) ∙ sym ey ∙ ap f (sym er)
unwrapped f (Some z) x r p y er ep ey = ap (λ q. unwrap_or q y) (sym ep) ∙ ap f (sym er)

pub kept_tags_found : (d : Data) (vs : List Value) → items_in (codes "keep") d ≡ items_view vs → texts_found vs ≡ (rule_found d).kept_tags
unfolding rule_found
kept_tags_found d vs e = sym (ap (of_each text_found) e ∙ found_of_each text_found vs)

pub rules_listed : (d : Data) (vs : List Value) → items_in (codes "rules") d ≡ items_view vs → rules_found vs ≡ (settings_found d).rules
unfolding settings_found
rules_listed d vs e = sym (ap (of_each rule_found) e ∙ found_of_each rule_found vs)

-- ---- a rule that is added

-- a value that is no rule
pub no_rule : (s : Settings) (o : Option Rule) → is_some o ≡ false → Some Form ≡ fault_added s o
no_rule s None h = refl
no_rule s (Some r) h = absurd (let q : true ≡ false = h in cc)

added_is : (s : Settings) (o : Option Rule) (found : Rule) → ((r : Rule) → o ≡ Some r → found ≡ r) → is_some o ≡ true → added_fault s found ≡ fault_added s o
added_is s None found same h = absurd (let q : false ≡ true = h in cc)
added_is s (Some r) found same h = ap (added_fault s) (same r refl)

-- the fault of adding a rule is that of its parts
pub added_found : (s : Settings) (d : Data) → is_some (rule_parsed d) ≡ true → added_fault s (rule_found d) ≡ fault_added s (rule_parsed d)
added_found s d h = added_is s (rule_parsed d) (rule_found d) (rule_is d) h
