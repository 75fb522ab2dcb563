-- Numbers with the same bits, which are equal.
use Rattle.std.proofs.Common.{◌≡◌, ℕ, ℤ, true, false, nat_eq, to_z, of_z, refl, sym, ap, arith, ◌∙◌, true≢false, SFits}
use Rattle.std.specs.Int.{Width}
use Rattle.std.specs.Ordering.{int_eq}
use Rattle.std.proofs.lemmas.Int.{to_z-of_z}
use Rattle.std.proofs.lemmas.Bool.Decides.{Decides-int_eq, nat_tests}

eq_from : (a b : ℕ) → nat_eq a b ≡ true → a ≡ b
eq_from a b h = grind (arith, nat_tests)

eq_true : (a b : ℕ) → a ≡ b → nat_eq a b ≡ true
eq_true a b h = grind (arith, nat_tests)

pub same_bits : (w : Width) (x y : ℤ) → SFits w x → SFits w y → nat_eq (of_z w x) (of_z w y) ≡ int_eq x y
same_bits w x y f g =
    elim (int_eq x y) as (λ b. int_eq x y ≡ b → nat_eq (of_z w x) (of_z w y) ≡ b) [
      | true ↦ λ e. eq_true _ _ (ap (of_z w) ((Decides-int_eq x y).0 e))
      | false ↦ λ e. elim (nat_eq (of_z w x) (of_z w y)) as (λ b. nat_eq (of_z w x) (of_z w y) ≡ b → b ≡ false) [
        | true ↦ λ q. absurd (let r : x ≡ y = sym (to_z-of_z w x f) ∙ ap (to_z w) (eq_from _ _ q) ∙ to_z-of_z w y g in true≢false (sym ((Decides-int_eq x y).1 r) ∙ e))
        | false ↦ λ q. refl
      ] refl
    ] refl
