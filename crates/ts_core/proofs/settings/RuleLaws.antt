-- Settings after a valid rule is appended or a rule is dropped, which have no fault.
use Rattle.std.proofs.lemmas.List.Folds.{list_any-append}
use Rattle.std.proofs.Common.{◌≡◌, ℕ, ◌+◌, Bool, true, false, cond, not, ◌||◌, List, [], ◌∷◌, ◌++◌, length, filter, Some, None, refl, sym, ap, ◌∙◌, arith, nat_lt, nat_le}
use Rattle.std.proofs.Math.Bool.{or-false}
use Rattle.std.proofs.lemmas.Bool.Decides.{nat_tests}
use Rattle.std.proofs.lemmas.Bool.{not-true, or_from, or_parts, le-leb}
use Rattle.std.proofs.lemmas.List.{append-nil, append_assoc, length-append}
use Rattle.ts_core.specs.declared.settings.settings_fault.RuleFault.TheVariants.{Interval, Duration, RepeatedName, BadName, KeptTags}
use Rattle.ts_core.specs.declared.settings.settings_fault.SettingsFault.TheVariants.{TooManyRules}
use Rattle.ts_core.specs.facts.Facts.{Text, same_text}
use Rattle.ts_core.specs.settings.Settings.{Rule, Settings, with_rule, without_rule, is_unnamed}
use Rattle.ts_core.specs.settings.SettingsFaults.{unless, is_rule_name, is_named, is_interval, are_kept_tags, outlasts, fault_of_rule, or_rule_fault, rules_fault, settings_fault, added_fault}
use Rattle.ts_core.proofs.lists.ListSteps.{length-filter}
use Rattle.ts_core.proofs.settings.SettingsLaws.{few, well, or_none, new_name, settings_are}

-- ---- a rule is added

rules_fault-push : (raw : ℕ) (earlier rs : List Rule) (r : Rule) → rules_fault raw earlier rs ≡ None
    → rules_fault raw earlier (rs ++ r ∷ []) ≡ or_rule_fault (length (earlier ++ rs)) (fault_of_rule raw (earlier ++ rs) r) None
rules_fault-push raw earlier [] r h = ap (λ es. or_rule_fault (length es) (fault_of_rule raw es r) None) (sym (append-nil earlier))
rules_fault-push raw earlier (x ∷ rs) r h =
    let k = or_none (length earlier) (fault_of_rule raw earlier x) _ h in
    ap (λ f. or_rule_fault (length earlier) f (rules_fault raw (earlier ++ x ∷ []) (rs ++ r ∷ []))) k.0
    ∙ rules_fault-push raw (earlier ++ x ∷ []) rs r k.1
    ∙ ap (λ es. or_rule_fault (length es) (fault_of_rule raw es r) None) (append_assoc earlier (x ∷ []) rs)

-- the fault of settings with one more rule is the fault of that rule
pub with_rule-fault : (s : Settings) (r : Rule) → settings_fault s ≡ None → settings_fault (with_rule r s) ≡ added_fault s r
with_rule-fault s r h =
    let n : length (s.rules ++ r ∷ []) ≡ length s.rules + 1 = length-append s.rules (r ∷ []) in
    ap (λ m. cond (nat_le m 32) (rules_fault s.raw_duration [] (s.rules ++ r ∷ [])) (Some TooManyRules)) n
    ∙ ap (λ b. cond b (rules_fault s.raw_duration [] (s.rules ++ r ∷ [])) (Some TooManyRules)) (grind (arith, nat_tests))
    ∙ ap (λ f. cond (nat_lt (length s.rules) 32) f (Some TooManyRules)) (rules_fault-push s.raw_duration [] s.rules r (few s h))

-- a valid rule has a new name
pub added_new : (s : Settings) (r : Rule) → added_fault s r ≡ None → is_named s.rules r.name ≡ false
added_new s r h = not-true _ (new_name s.raw_duration s.rules r (or_none (length s.rules) _ None (well (nat_lt (length s.rules) 32) TooManyRules _ h).1).0)

-- ---- a rule is dropped

-- a name that is new to `earlier` is new to `others`
abbrev NamesFewer : List Rule → List Rule → Type 0
NamesFewer others earlier = (name : Text) → is_named earlier name ≡ false → is_named others name ≡ false

named_push : (rs : List Rule) (r : Rule) (name : Text) → is_named (rs ++ r ∷ []) name ≡ (is_named rs name || same_text r.name name)
named_push rs r name = list_any-append (λ (x : Rule). same_text x.name name) rs (r ∷ []) ∙ ap (λ b. is_named rs name || b) (or-false (same_text r.name name))

fault_fewer : (raw : ℕ) (earlier others : List Rule) (r : Rule) → NamesFewer others earlier → fault_of_rule raw earlier r ≡ None → fault_of_rule raw others r ≡ None
fault_fewer raw earlier others r f h =
    let was : is_named earlier r.name ≡ false = not-true (is_named earlier r.name) (new_name raw earlier r h) in
    ap (λ b. unless (is_rule_name r.name) BadName (unless (not b) RepeatedName (unless (is_interval r.interval) Interval (unless (are_kept_tags r.kept_tags) KeptTags (unless (outlasts r.duration raw) Duration None))))) (f r.name was ∙ sym was)
    ∙ h

without_fault : (raw : ℕ) (p : Rule → Bool) (earlier others rs : List Rule) → NamesFewer others earlier → rules_fault raw earlier rs ≡ None → rules_fault raw others (filter p rs) ≡ None
without_fault raw p earlier others [] f h = refl
without_fault raw p earlier others (r ∷ rs) f h =
    let k = or_none (length earlier) (fault_of_rule raw earlier r) _ h in
    let more : NamesFewer others (earlier ++ r ∷ []) = λ name e. f name (or_parts (is_named earlier name) (same_text r.name name) (sym (named_push earlier r name) ∙ e)).0 in
    let both : NamesFewer (others ++ r ∷ []) (earlier ++ r ∷ []) = λ name e.
    let q = or_parts (is_named earlier name) (same_text r.name name) (sym (named_push earlier r name) ∙ e) in
    named_push others r name ∙ or_from (is_named others name) (same_text r.name name) (f name q.0) q.1 in
    elim (p r) as (λ b. rules_fault raw others (cond b (r ∷ filter p rs) (filter p rs)) ≡ None) [
      | true ↦ ap (λ z. or_rule_fault (length others) z (rules_fault raw (others ++ r ∷ []) (filter p rs))) (fault_fewer raw earlier others r f k.0)
          ∙ without_fault raw p (earlier ++ r ∷ []) (others ++ r ∷ []) rs both k.1
      | false ↦ without_fault raw p (earlier ++ r ∷ []) others rs more k.1
    ]

pub without_rule-faultless : (s : Settings) (name : Text) → settings_fault s ≡ None → settings_fault (without_rule name s) ≡ None
without_rule-faultless s name h =
    let fewer = length-filter (is_unnamed name) s.rules in
    let all = (settings_are s h).few in
    ap (λ b. cond b (rules_fault s.raw_duration [] (filter (is_unnamed name) s.rules)) (Some TooManyRules)) (le-leb (length (filter (is_unnamed name) s.rules)) 32 (omega arith))
    ∙ without_fault s.raw_duration (is_unnamed name) [] [] s.rules (λ n e. e) (few s h)
