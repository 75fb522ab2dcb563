-- The index of rules of one name, if names differ: there is only one.
use Rattle.std.proofs.Common.{◌≡◌, ℕ, suc, zero, refl, sym, ap, ◌∙◌, subst, List, [], ◌∷◌, map, Some, None}
use Rattle.std.specs.Prelude.{slice_get}
use Rattle.ts_core.specs.lists.Members.{Among, AllDistinct}
use Rattle.ts_core.specs.plans.Pieces.{MarkedRule}
use Rattle.ts_core.proofs.settings.RuleNames.{name_of, name_there}

-- the first name is at number 0 alone
first_alone : (x : MarkedRule) (rs : List MarkedRule) (n : ℕ) (r u : MarkedRule) → AllDistinct (map name_of (x ∷ rs)) → Some x ≡ Some r → slice_get rs n ≡ Some u → name_of r ≡ name_of u → ⊥
first_alone x rs n r u d e f same =
    let k : x ≡ r = cc in
    d.0 (subst (λ z. Among z (map name_of rs)) (sym (ap name_of k ∙ same)) (name_there rs n u f))

pub same_number : (rs : List MarkedRule) (m n : ℕ) (r u : MarkedRule) → AllDistinct (map name_of rs) → slice_get rs m ≡ Some r → slice_get rs n ≡ Some u → name_of r ≡ name_of u → m ≡ n
same_number [] m n r u d e f same = absurd (let q : None ≡ Some r = e in cc)
same_number (x ∷ rs) zero zero r u d e f same = refl
same_number (x ∷ rs) zero (suc n) r u d e f same = absurd (first_alone x rs n r u d e f same)
same_number (x ∷ rs) (suc m) zero r u d e f same = absurd (first_alone x rs m u r d f e (sym same))
same_number (x ∷ rs) (suc m) (suc n) r u d e f same = ap suc (same_number rs m n r u d.1 e f same)

-- a number has one rule
pub same_rule : (rs : List MarkedRule) (m n : ℕ) (r u : MarkedRule) → m ≡ n → slice_get rs m ≡ Some r → slice_get rs n ≡ Some u → u ≡ r
same_rule rs m n r u e a b = let q : Some u ≡ Some r = sym b ∙ ap (slice_get rs) (sym e) ∙ a in cc
