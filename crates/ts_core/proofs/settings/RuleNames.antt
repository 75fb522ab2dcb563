-- Distinct names of rules: a look-up by name finds the rule, so pieces may name rules and a planner may number them.
use Rattle.std.proofs.Common.{◌≡◌, ℕ, ℤ, suc, zero, arith, refl, sym, ap, ◌∙◌, subst, List, [], ◌∷◌, map, length, Some, None, inl, inr, true, false, cond}
use Rattle.std.specs.Prelude.{slice_get}
use Rattle.ts_core.specs.lists.Members.{Among, AllDistinct}
use Rattle.ts_core.specs.facts.Facts.{Text, same_text}
use Rattle.ts_core.specs.settings.Settings.{Rule}
use Rattle.ts_core.specs.plans.Pieces.{MarkedRule, marked_rules, rule_named}
use Rattle.ts_core.proofs.facts.Ids.{same_text-eq}
use Rattle.ts_core.proofs.lists.Comparisons.{same_text-refl}

abbrev pub name_of : MarkedRule → Text
name_of r = r.rule.name

pub name_there : (rs : List MarkedRule) (n : ℕ) (r : MarkedRule) → slice_get rs n ≡ Some r → Among (name_of r) (map name_of rs)
name_there [] n r e = absurd (let q : None ≡ Some r = e in cc)
name_there (x ∷ rs) zero r e = let q : Some x ≡ Some r = e in let k : x ≡ r = cc in inl (ap name_of (sym k))
name_there (x ∷ rs) (suc n) r e = inr (name_there rs n r e)

pub rule_named-at : (rs : List MarkedRule) (n : ℕ) (r : MarkedRule) → AllDistinct (map name_of rs) → slice_get rs n ≡ Some r → rule_named (name_of r) rs ≡ Some r
rule_named-at [] n r d e = absurd (let q : None ≡ Some r = e in cc)
rule_named-at (x ∷ rs) zero r d e =
    let q : Some x ≡ Some r = e in
    let k : x ≡ r = cc in
    ap (λ (y : MarkedRule). cond (same_text x.rule.name y.rule.name) (Some x) (rule_named y.rule.name rs)) (sym k) ∙ ap (λ b. cond b (Some x) (rule_named x.rule.name rs)) (same_text-refl x.rule.name) ∙ q
rule_named-at (x ∷ rs) (suc n) r d e =
    elim (same_text x.rule.name r.rule.name) as (λ b. same_text x.rule.name r.rule.name ≡ b → cond b (Some x) (rule_named r.rule.name rs) ≡ Some r) [
      | true ↦ λ t. absurd (d.0 (subst (λ z. Among z (map name_of rs)) (sym (same_text-eq x.rule.name r.rule.name t)) (name_there rs n r e)))
      | false ↦ λ t. rule_named-at rs n r d.1 e
    ] refl

-- the names of marked rules are those of the settings
pub marked_names : (rs : List Rule) (lows : List ℤ) → length lows ≡ length rs → map name_of (marked_rules rs lows) ≡ map (λ (r : Rule). r.name) rs
marked_names [] lows e = refl
marked_names (r ∷ rs) [] e = absurd (omega arith)
marked_names (r ∷ rs) (low ∷ lows) e = ap (λ z. r.name ∷ z) (marked_names rs lows (omega arith))
