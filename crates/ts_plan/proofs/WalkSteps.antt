-- The walk of a plan, step by step, as the planner takes it.
use Rattle.std.proofs.Common.{◌≡◌, ℕ, zero, suc, ℤ, ◌+◌, ◌*◌, ◌<◌, ◌≤◌, ◌+ℤ◌, ◌-ℤ◌, ◌≤ℤ◌, ◌<ℤ◌, int_le, int_lt, false, arith, ◌∙◌, List, [], ◌∷◌, length, Some, None}
use Rattle.std.specs.Prelude.{slice_get}
use Rattle.std.proofs.lemmas.Int.{ints, by_lt_z}
use Rattle.ts_core.proofs.lists.Comparisons.{lt_not}

pub in_range : {X : Type 0} (xs : List X) (n : ℕ) (x : X) → slice_get xs n ≡ Some x → n < length xs
in_range [] n x e = absurd (let q : None ≡ Some x = e in cc)
in_range (y ∷ xs) zero x e = omega arith
in_range (y ∷ xs) (suc n) x e = let ih = in_range xs n x e in omega arith

pub le_not : (x y : ℤ) → int_le x y ≡ false → y <ℤ x
le_not x y h = grind (arith, ints)

-- not after the end and not at it is before it
pub before_end : (p to q e : ℤ) → q ≡ p → e ≡ to → int_lt e q ≡ false → (p ≡ to → ⊥) → p <ℤ to
before_end p to q e f g h n = let k = lt_not e q h in by_lt_z p to (λ l. l) (λ m. absurd (n (omega (arith, ints))))
