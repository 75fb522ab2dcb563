-- Mergeable aggregates: merging is associative and commutative, and counts add up. (Own rules.)
use Rattle.std.specs.Prelude.{◌≡◌, ℕ, ◌+◌, ℤ, List, [], ◌∷◌}

pub record PartialLaws {M : Type 0} (empty : M) (single : ℤ → ℤ → M) (merge : M → M → M) (count : M → ℕ) : Type 0 where
  pub unit : (x : M) → merge empty x ≡ x
  pub comm : (x y : M) → merge x y ≡ merge y x
  pub assoc : (x y z : M) → merge (merge x y) z ≡ merge x (merge y z)
  pub count_empty : count empty ≡ 0
  pub count_single : (t v : ℤ) → count (single t v) ≡ 1
  pub count_merge : (x y : M) → count (merge x y) ≡ count x + count y

-- the merged aggregate of a list
abbrev pub fold_by : {M X : Type 0} → M → (M → M → M) → (X → M) → List X → M
fold_by empty merge one [] = empty
fold_by empty merge one (x ∷ xs) = merge (one x) (fold_by empty merge one xs)
