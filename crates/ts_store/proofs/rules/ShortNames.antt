-- Lengths of the names of rules, at most 32 bytes.
use Rattle.std.proofs.Common.{◌≡◌, ◌≤◌, ◌++◌, List, [], ◌∷◌, ℕ, length, Some, None, true, false, ◌&&◌, nat_le, nat_lt, cond, arith, sym, subst, true≢false, inl, inr}
use Rattle.std.specs.List.{AllByRecursion}
use Rattle.std.proofs.lemmas.Bool.{and_parts, or_cases}
use Rattle.std.proofs.lemmas.Bool.Decides.{nat_tests}
use Rattle.ts_core.specs.facts.Facts.{Text, same_text}
use Rattle.ts_core.specs.settings.Settings.{Rule, Settings}
use Rattle.ts_core.specs.settings.SettingsFaults.{or_rule_fault, is_rule_name, is_named, fault_of_rule, rules_fault, settings_fault, added_fault}
use Rattle.ts_core.specs.declared.settings.settings_fault.SettingsFault.TheVariants.{TooManyRules}
use Rattle.ts_core.proofs.facts.Ids.{same_text-eq}
use Rattle.ts_core.proofs.settings.SettingsLaws.{well, or_none}

abbrev pub HasShortName : Rule → Type 0
HasShortName r = length r.name ≤ 32

nat_le_from : (a b : ℕ) → nat_le a b ≡ true → a ≤ b
nat_le_from a b h = grind (arith, nat_tests)

short_name : (raw : ℕ) (earlier : List Rule) (r : Rule) → fault_of_rule raw earlier r ≡ None → HasShortName r
short_name raw earlier r h =
    let named = (well (is_rule_name r.name) _ _ h).0 in
    let short = and_parts (nat_le 1 (length r.name) && nat_le (length r.name) 32) _ named in
    nat_le_from (length r.name) 32 (and_parts (nat_le 1 (length r.name)) (nat_le (length r.name) 32) short.0).1

rules_short : (raw : ℕ) (earlier rules : List Rule) → rules_fault raw earlier rules ≡ None → AllByRecursion HasShortName rules
rules_short raw earlier [] h = tt
rules_short raw earlier (r ∷ rs) h = let k = or_none (length earlier) (fault_of_rule raw earlier r) _ h in (short_name raw earlier r k.0, rules_short raw (earlier ++ r ∷ []) rs k.1)

-- in settings without a fault
pub names_short : (s : Settings) → settings_fault s ≡ None → AllByRecursion HasShortName s.rules
names_short s h =
    elim (nat_le (length s.rules) 32) as (λ b. cond b (rules_fault s.raw_duration [] s.rules) (Some TooManyRules) ≡ None → AllByRecursion HasShortName s.rules) [
      | true ↦ λ q. rules_short s.raw_duration [] s.rules q
      | false ↦ λ q. absurd (let n : Some TooManyRules ≡ None = q in cc)
    ] h

named_among : (rules : List Rule) (name : Text) → AllByRecursion HasShortName rules → is_named rules name ≡ true → length name ≤ 32
named_among [] name all h = absurd (true≢false (sym h))
named_among (r ∷ rs) name all h =
    elim (or_cases (same_text r.name name) (is_named rs name) h) as (λ _. length name ≤ 32) [
      | inl e ↦ subst (λ (t : Text). length t ≤ 32) (same_text-eq r.name name e) all.0
      | inr k ↦ named_among rs name all.1 k
    ]

pub named_short : (s : Settings) (name : Text) → settings_fault s ≡ None → is_named s.rules name ≡ true → length name ≤ 32
named_short s name h named = named_among s.rules name (names_short s h) named

-- of a rule that may be appended
pub added_short : (s : Settings) (r : Rule) → added_fault s r ≡ None → HasShortName r
added_short s r h =
    elim (nat_lt (length s.rules) 32) as (λ b. cond b (or_rule_fault (length s.rules) (fault_of_rule s.raw_duration s.rules r) None) (Some TooManyRules) ≡ None → HasShortName r) [
      | true ↦ λ q. short_name s.raw_duration s.rules r (or_none (length s.rules) (fault_of_rule s.raw_duration s.rules r) None q).0
      | false ↦ λ q. absurd (let n : Some TooManyRules ≡ None = q in cc)
    ] h
