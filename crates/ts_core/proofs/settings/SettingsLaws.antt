-- The properties of settings without a fault.
use Rattle.std.proofs.Common.{◌≡◌, ℕ, pos, int_le, ◌≤ℤ◌, Bool, true, false, ◌&&◌, ◌||◌, not, ◌==◌, map, ap, sym, ◌∙◌, true≢false, nat_lt, nat_le, List, [], ◌∷◌, ◌++◌, length, Option, Some, None, inl, inr, ⊎_elim, arith, refl}
use Rattle.std.proofs.lemmas.Int.{ints}
use Rattle.std.specs.List.{AllByRecursion, list_any}
use Rattle.std.proofs.lemmas.Bool.{and_parts, or_cases, or_right, not-true, eqb-true, ltb-true, leb-true}
use Rattle.ts_core.specs.declared.settings.settings_fault.RuleFault.{RuleFault}
use Rattle.ts_core.specs.declared.settings.settings_fault.SettingsFault.{SettingsFault}
use Rattle.ts_core.specs.declared.settings.settings_fault.SettingsFault.TheVariants.{TooManyRules, OfRule}
use Rattle.ts_core.specs.lists.Members.{Among, AllDistinct}
use Rattle.ts_core.specs.facts.Facts.{Text, same_text}
use Rattle.ts_core.specs.settings.Settings.{Rule, Settings, Outlasts, AreKeptTags, AreSettings}
use Rattle.ts_core.specs.settings.SettingsFaults.{unless, is_named, are_distinct, are_kept_tags, outlasts, fault_of_rule, or_rule_fault, rules_fault, settings_fault}
use Rattle.ts_core.proofs.lists.Comparisons.{le_from, same_text-refl, texts_among}
use Rattle.ts_core.proofs.lists.MembersLemmas.{Among-left, Among-right}

pub well : {F : Type 0} (b : Bool) (f : F) (next : Option F) → unless b f next ≡ None → (b ≡ true) × (next ≡ None)
well true f next h = (refl, h)
well false f next h = absurd (let q : Some f ≡ None = h in cc)

outlasts_from : (long short : ℕ) → outlasts long short ≡ true → Outlasts long short
outlasts_from long short h =
    elim (or_cases (long == 0) (nat_lt 0 short && nat_le short long) h) as (λ _. Outlasts long short) [
      | inl e ↦ inl (eqb-true long 0 e)
      | inr k ↦ let p = and_parts (nat_lt 0 short) _ k in inr (ltb-true 0 short p.0, leb-true short long p.1)
    ]

distinct_from : (ts : List Text) → are_distinct ts ≡ true → AllDistinct ts
distinct_from [] h = tt
distinct_from (t ∷ ts) h = let p = and_parts (not (list_any (same_text t) ts)) _ h in (λ a. true≢false (sym (texts_among t ts a) ∙ not-true _ p.0), distinct_from ts p.1)

kept_tags_from : (tags : List Text) → are_kept_tags tags ≡ true → AreKeptTags tags
kept_tags_from tags h = let p = and_parts (nat_le (length tags) 16) _ h in record { few = leb-true (length tags) 16 p.0; once = distinct_from tags p.1 }

-- the name of a rule without a fault is new
pub new_name : (raw : ℕ) (earlier : List Rule) (r : Rule) → fault_of_rule raw earlier r ≡ None → not (is_named earlier r.name) ≡ true
new_name raw earlier r h = (well _ _ _ (well _ _ _ h).1).0

-- the properties of a rule without a fault
record IsFit (raw : ℕ) (r : Rule) : Type 0 where
  wide : pos 1 ≤ℤ r.interval
  second : pos 1000000000 ≤ℤ r.interval
  kept_tags : AreKeptTags r.kept_tags
  lasting : Outlasts r.duration raw

fit_from : (raw : ℕ) (earlier : List Rule) (r : Rule) → fault_of_rule raw earlier r ≡ None → IsFit raw r
fit_from raw earlier r h =
    let p1 = well _ _ _ h in
    let p2 = well _ _ _ p1.1 in
    let p3 = well _ _ _ p2.1 in
    let p4 = well _ _ _ p3.1 in
    let p5 = well _ _ _ p4.1 in
    let second = le_from (pos 1000000000) r.interval (and_parts (int_le (pos 1000000000) r.interval) _ p3.0).0 in
    record { wide = omega (arith, ints); second = second; kept_tags = kept_tags_from r.kept_tags p4.0; lasting = outlasts_from r.duration raw p5.0 }

pub or_none : (n : ℕ) (f : Option RuleFault) (next : Option SettingsFault) → or_rule_fault n f next ≡ None → (f ≡ None) × (next ≡ None)
or_none n None next h = (refl, h)
or_none n (Some f) next h = absurd (let q : Some (OfRule f n) ≡ None = h in cc)

rules_fit : (P : Rule → Type 0) (raw : ℕ) → ((r : Rule) → IsFit raw r → P r) → (earlier rs : List Rule) → rules_fault raw earlier rs ≡ None → AllByRecursion P rs
rules_fit P raw f earlier [] h = tt
rules_fit P raw f earlier (r ∷ rs) h = let k = or_none (length earlier) (fault_of_rule raw earlier r) _ h in (f r (fit_from raw earlier r k.0), rules_fit P raw f (earlier ++ r ∷ []) rs k.1)

-- ---- names

is_named-among : (earlier : List Rule) (e : Rule) (name : Text) → Among e earlier → e.name ≡ name → is_named earlier name ≡ true
is_named-among [] e name a n = absurd a
is_named-among (r ∷ rs) e name a n =
    ⊎_elim {C = (same_text r.name name || is_named rs name) ≡ true}
    (λ k. ap (λ b. b || is_named rs name) (ap (λ (x : Rule). same_text x.name name) (sym k) ∙ ap (same_text e.name) (sym n) ∙ same_text-refl e.name))
    (λ k. or_right (same_text r.name name) (is_named rs name) (is_named-among rs e name k n)) a

-- no rule after others has the name of one of these
others_named : (raw : ℕ) (earlier rs : List Rule) (e : Rule) → rules_fault raw earlier rs ≡ None → Among e earlier → Among e.name (map (λ (r : Rule). r.name) rs) → ⊥
others_named raw earlier [] e h a n = n
others_named raw earlier (r ∷ rs) e h a n =
    let k = or_none (length earlier) (fault_of_rule raw earlier r) _ h in
    elim n as (λ _. ⊥) [
      | inl same ↦ true≢false (sym (is_named-among earlier e r.name a same) ∙ not-true (is_named earlier r.name) (new_name raw earlier r k.0))
      | inr more ↦ others_named raw (earlier ++ r ∷ []) rs e k.1 (Among-left e earlier (r ∷ []) a) more
    ]

rules_named : (raw : ℕ) (earlier rs : List Rule) → rules_fault raw earlier rs ≡ None → AllDistinct (map (λ (r : Rule). r.name) rs)
rules_named raw earlier [] h = tt
rules_named raw earlier (r ∷ rs) h =
    let k = or_none (length earlier) (fault_of_rule raw earlier r) _ h in
    (others_named raw (earlier ++ r ∷ []) rs r k.1 (Among-right r earlier (r ∷ []) (inl refl)), rules_named raw (earlier ++ r ∷ []) rs k.1)

-- ---- settings

pub few : (s : Settings) → settings_fault s ≡ None → rules_fault s.raw_duration [] s.rules ≡ None
few s h = (well (nat_le (length s.rules) 32) TooManyRules _ h).1

pub settings_wide : (s : Settings) → settings_fault s ≡ None → AllByRecursion (λ (r : Rule). pos 1 ≤ℤ r.interval) s.rules
settings_wide s h = rules_fit _ s.raw_duration (λ r f. f.wide) [] s.rules (few s h)

-- settings without a fault, in other words
pub settings_are : (s : Settings) → settings_fault s ≡ None → AreSettings s
settings_are s h = record {
  few = leb-true (length s.rules) 32 (well _ TooManyRules _ h).0;
  names = rules_named s.raw_duration [] s.rules (few s h);
  intervals = settings_wide s h;
  seconds = rules_fit _ s.raw_duration (λ r f. f.second) [] s.rules (few s h);
  kept_tags = rules_fit _ s.raw_duration (λ r f. f.kept_tags) [] s.rules (few s h);
  lasting = rules_fit _ s.raw_duration (λ r f. f.lasting) [] s.rules (few s h);
}
