-- Marked rules: their number, their look-up by index and by name, and their buckets, each of a nanosecond or more.
use Rattle.std.proofs.Common.{◌≡◌, ◌∙◌, ℕ, zero, suc, ◌≤◌, pos, ◌≤ℤ◌, ℤ, not, true, false, refl, sym, ap, arith, List, [], ◌∷◌, length, Some, None}
use Rattle.std.specs.Prelude.{slice_get}
use Rattle.std.specs.List.{AllByRecursion, remove}
use Rattle.std.proofs.lemmas.Map.Views.{any-filter_same}
use Rattle.ts_core.specs.facts.Facts.{Text, same_text}
use Rattle.ts_core.specs.settings.Settings.{Rule, is_unnamed}
use Rattle.ts_core.specs.settings.SettingsFaults.{is_named}
use Rattle.ts_core.specs.moves.RuleMoves.{IsRuleAt}
use Rattle.ts_core.specs.plans.Pieces.{MarkedRule, marked_rules, rule_named}
use Rattle.ts_core.proofs.plans.GoodPlaces.{number_of, rule_wide}

pub marked_rules-short : (rs : List Rule) (lows : List ℤ) → (length (marked_rules rs lows) ≤ length rs) × (length (marked_rules rs lows) ≤ length lows)
marked_rules-short [] lows = (omega arith, omega arith)
marked_rules-short (r ∷ rs) [] = (omega arith, omega arith)
marked_rules-short (r ∷ rs) (low ∷ lows) = let ih = marked_rules-short rs lows in (omega arith, omega arith)

-- the rule with an index, with the low index there
pub marked_at : (rs : List Rule) (lows : List ℤ) (n : ℕ) (r : Rule) (low : ℤ) → slice_get rs n ≡ Some r → slice_get lows n ≡ Some low → slice_get (marked_rules rs lows) n ≡ Some (record { rule = r; low = low })
marked_at [] lows n r low a b = absurd (let q : None ≡ Some r = a in cc)
marked_at (x ∷ rs) [] n r low a b = absurd (let q : None ≡ Some low = b in cc)
marked_at (x ∷ rs) (y ∷ lows) zero r low a b = let p : Some x ≡ Some r = a in let q : Some y ≡ Some low = b in cc
marked_at (x ∷ rs) (y ∷ lows) (suc n) r low a b = marked_at rs lows n r low a b

pub not_named : (name : Text) (rs : List Rule) (lows : List ℤ) → is_named rs name ≡ false → rule_named name (marked_rules rs lows) ≡ None
not_named name [] lows h = refl
not_named name (r ∷ rs) [] h = refl
not_named name (r ∷ rs) (low ∷ lows) h = grind (arith, not_named name rs lows)

-- a rule whose name no other one has is the first of this name
first_named : (name : Text) (rs : List Rule) (lows : List ℤ) (n : ℕ) → is_named rs name ≡ true → is_named (remove rs n) name ≡ false → rule_named name (marked_rules rs lows) ≡ slice_get (marked_rules rs lows) n
first_named name [] lows n h k = refl
first_named name (r ∷ rs) [] n h k = refl
first_named name (r ∷ rs) (low ∷ lows) zero h k = grind arith
first_named name (r ∷ rs) (low ∷ lows) (suc n) h k = grind (arith, first_named name rs lows n)

pub named_at : (name : Text) (rs : List Rule) (lows : List ℤ) (n : ℕ) → IsRuleAt name rs n → rule_named name (marked_rules rs lows) ≡ slice_get (marked_rules rs lows) n
named_at name rs lows n at = first_named name rs lows n at.named (ap (λ (xs : List Rule). is_named xs name) (sym at.without) ∙ any-filter_same (λ (r : Rule). same_text r.name name) (is_unnamed name) false (λ r t. ap not t) rs)

-- a rule that is found by its name has buckets of a nanosecond or more, as every rule has
pub named_wide : (rs : List MarkedRule) (name : Text) (r : MarkedRule) → AllByRecursion (λ (x : MarkedRule). pos 1 ≤ℤ x.rule.interval) rs → rule_named name rs ≡ Some r → pos 1 ≤ℤ r.rule.interval
named_wide rs name r all e = let k = number_of rs name r e in rule_wide rs k.n r all k.there
