-- Look-up of a rule by its name, and its removal by its index.
use Rattle.std.proofs.lemmas.Bool.{not_from_false, false_from_ne_true}
use Rattle.std.proofs.Common.{◌≡◌, ℕ, zero, suc, ◌+◌, ◌<◌, Bool, true, false, cond, not, inl, inr, ◌||◌, List, [], ◌∷◌, length, filter, map, refl, sym, ap, ◌∙◌, subst, arith, Option, Some, None, IfSome, IsNone, true≢false}
use Rattle.std.specs.List.{AllByRecursion, list_any, position_from, remove}
use Rattle.std.proofs.lemmas.Option.{none-some, same_Some}
use Rattle.std.proofs.lemmas.Simd.{map-map}
use Rattle.ts_core.specs.lists.Members.{Among, AllDistinct}
use Rattle.ts_core.specs.lists.Numbered.{IsAt}
use Rattle.ts_core.specs.facts.Facts.{Text, same_text}
use Rattle.ts_core.specs.settings.Settings.{Rule, Settings, is_unnamed}
use Rattle.ts_core.specs.settings.SettingsFaults.{settings_fault, is_named}
use Rattle.ts_core.specs.moves.RuleMoves.{stays_without, IsRuleAt}
use Rattle.ts_core.specs.store.StoreData.{RuleData}
use Rattle.ts_core.proofs.facts.Ids.{same_text-eq}
use Rattle.ts_core.proofs.settings.SettingsLaws.{settings_are}
use Rattle.ts_core.proofs.settings.RuleLaws.{without_rule-faultless}
use Rattle.ts_core.proofs.lists.BesideLemmas.{FailsAt, filter-fails}
use Rattle.ts_core.proofs.lists.Comparisons.{same_text-refl}
use Rattle.ts_core.proofs.lists.MembersLemmas.{Among-map}
use Rattle.ts_core.proofs.lists.NumberedLemmas.{at_among}
use Rattle.ts_core.proofs.lists.Indices.{item_at}

-- ---- the first item that passes

-- it has this index
pub record IsFound {X : Type 0} (p : X → Bool) (xs : List X) (i n : ℕ) : Type 0 where
  pub index : ℕ
  pub counted : n ≡ i + index
  pub inside : index < length xs
  pub item : X
  pub at : IsAt xs index item
  pub passes : p item ≡ true
  pub any : list_any p xs ≡ true

module _ {X : Type 0} (p : X → Bool) where
  pub found : (xs : List X) (i n : ℕ) → position_from p i xs ≡ Some n → IsFound p xs i n
  found [] i n e = absurd (none-some n e)
  found (x ∷ xs) i n e =
      elim (p x) as (λ b. p x ≡ b → cond b (Some i) (position_from p (i + 1) xs) ≡ Some n → IsFound p (x ∷ xs) i n) [
        | true ↦ λ t q. let same : i ≡ n = cc in record { index = zero; counted = omega arith; inside = omega arith; item = x; at = refl; passes = t; any = ap (λ b. b || list_any p xs) t }
        | false ↦ λ t q.
            let f = found xs (i + 1) n q in
            let counted = f.counted in
            let inside = f.inside in
            record { index = suc f.index; counted = omega arith; inside = omega arith; item = f.item; at = f.at; passes = f.passes; any = ap (λ b. b || list_any p xs) t ∙ f.any }
      ] refl e

  pub not_found : (xs : List X) (i : ℕ) → position_from p i xs ≡ None → list_any p xs ≡ false
  not_found [] i e = refl
  not_found (x ∷ xs) i e =
      elim (p x) as (λ b. p x ≡ b → cond b (Some i) (position_from p (i + 1) xs) ≡ None → list_any p (x ∷ xs) ≡ false) [
        | true ↦ λ t q. absurd (none-some i (sym q))
        | false ↦ λ t q. ap (λ b. b || list_any p xs) t ∙ not_found xs (i + 1) q
      ] refl e

-- ---- the rule of a name

unnamed : (name : Text) (r : Rule) → (r.name ≡ name → ⊥) → is_unnamed name r ≡ true
unnamed name r n = not_from_false _ (false_from_ne_true _ (λ e. n (same_text-eq r.name name e)))

others_pass : (name : Text) (rs : List Rule) → (Among name (map (λ (r : Rule). r.name) rs) → ⊥) → AllByRecursion (λ b. b ≡ true) (map (is_unnamed name) rs)
others_pass name [] n = tt
others_pass name (r ∷ rs) n = (unnamed name r (λ e. n (inl (sym e))), others_pass name rs (λ a. n (inr a)))

-- of rules with names of their own, the one of a name is the one at its index
fails_at : (rs : List Rule) (n : ℕ) (r : Rule) → IsAt rs n r → AllDistinct (map (λ (x : Rule). x.name) rs) → FailsAt (map (is_unnamed r.name) rs) n
fails_at [] n r e d = absurd (none-some r e)
fails_at (x ∷ rs) zero r e d = subst (λ (y : Rule). FailsAt (map (is_unnamed y.name) (x ∷ rs)) zero) (same_Some x r e) (ap not (same_text-refl x.name), others_pass x.name rs d.0)
fails_at (x ∷ rs) (suc n) r e d =
    let name : Rule → Text = λ (z : Rule). z.name in
    (unnamed r.name x (λ s. d.0 (subst (λ y. Among y (map name rs)) (sym s) (Among-map name r rs (at_among rs n r e)))), fails_at rs n r e d.1)

pub rule_found : (name : Text) (rs : List Rule) (n : ℕ) → AllDistinct (map (λ (r : Rule). r.name) rs) → position_from (λ (r : Rule). same_text r.name name) 0 rs ≡ Some n → IsRuleAt name rs n
rule_found name rs n distinct e =
    let f = found (λ (r : Rule). same_text r.name name) rs 0 n e in
    let counted = f.counted in
    let here : f.index ≡ n = omega arith in
    let inside = f.inside in
    let named : f.item.name ≡ name = same_text-eq f.item.name name f.passes in
    let at : IsAt rs n f.item = subst (λ k. IsAt rs k f.item) here f.at in
    let fails = fails_at rs n f.item at distinct in
    record {
      inside = omega arith;
      named = f.any;
      without = subst (λ (t : Text). filter (is_unnamed t) rs ≡ remove rs n) named (filter-fails (is_unnamed f.item.name) rs n fails);
      data_without = λ all same.
          let passes = subst (λ bs. FailsAt bs n) (ap (map (is_unnamed f.item.name)) (sym same) ∙ map-map (is_unnamed f.item.name) (λ (x : RuleData). x.rule) all) fails in
          subst (λ (t : Text). filter (stays_without t) all ≡ remove all n) named (filter-fails (stays_without f.item.name) all n passes);
    }

pub if_found : (name : Text) (rs : List Rule) (r : Option ℕ) → AllDistinct (map (λ (r : Rule). r.name) rs) → r ≡ position_from (λ (r : Rule). same_text r.name name) 0 rs → IfSome r (λ n. IsRuleAt name rs n)
if_found name rs None distinct e = tt
if_found name rs (Some n) distinct e = rule_found name rs n distinct (sym e)

pub if_missing : (name : Text) (rs : List Rule) (r : Option ℕ) → r ≡ position_from (λ (r : Rule). same_text r.name name) 0 rs → IsNone r → is_named rs name ≡ false
if_missing name rs None e none = not_found (λ (r : Rule). same_text r.name name) rs 0 (sym e)
if_missing name rs (Some n) e none = absurd (true≢false none)

-- ---- a rule is removed

pub all_remove : {X : Type 0} (P : X → Type 0) (xs : List X) (n : ℕ) → AllByRecursion P xs → AllByRecursion P (remove xs n)
all_remove P (x ∷ xs) zero a = a.1
all_remove P (x ∷ xs) (suc n) a = (a.0, all_remove P xs n a.1)
all_remove P [] zero a = a
all_remove P [] (suc n) a = a

pub removed-faultless : (s : Settings) (n : ℕ) → n < length s.rules → settings_fault s ≡ None → settings_fault (record { raw_duration = s.raw_duration; rules = remove s.rules n }) ≡ None
removed-faultless s n l h =
    let at = item_at s.rules n l in
    let fails = fails_at s.rules n at.0 at.1 (settings_are s h).names in
    subst (λ (rs : List Rule). settings_fault (record { raw_duration = s.raw_duration; rules = rs }) ≡ None) (filter-fails (is_unnamed at.0.name) s.rules n fails) (without_rule-faultless s at.0.name h)
