-- Lists whose items have their index as a number, in creation order. (Own rule.)
use Rattle.std.specs.Prelude.{◌≡◌, ◌⊎◌, ℕ, ◌+◌, Bool, List, [], ◌∷◌, ◌++◌, Some, if◌then◌else◌, slice_get}
use Rattle.ts_core.specs.lists.Members.{Among}

-- x has the index n
abbrev pub IsAt : {X : Type 0} → List X → ℕ → X → Type 0
IsAt xs n x = slice_get xs n ≡ Some x

-- x was there and nothing changes, or x is appended and nothing else changes
abbrev pub Gains : {X : Type 0} → List X → List X → X → Type 0
Gains before after x = (Among x before × (after ≡ before)) ⊎ ((Among x before → ⊥) × (after ≡ before ++ x ∷ []))

-- the indices of the items that pass, counted from n
abbrev pub numbers_where_from : {X : Type 0} → (X → Bool) → ℕ → List X → List ℕ
numbers_where_from p n [] = []
numbers_where_from p n (x ∷ xs) = if p x then n ∷ numbers_where_from p (n + 1) xs else numbers_where_from p (n + 1) xs

-- the indices of the items that pass, in creation order
abbrev pub numbers_where : {X : Type 0} → (X → Bool) → List X → List ℕ
numbers_where p xs = numbers_where_from p 0 xs
