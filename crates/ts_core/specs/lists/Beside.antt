-- Lists side by side, as a store's rules and rollups in memory are. (Own rules.)
use Rattle.std.specs.Prelude.{List, [], ◌∷◌, Bool, map, filter}
use Rattle.std.specs.List.{zip}

-- R holds at each place that both lists have
abbrev pub OfEach : {X Y : Type 0} → (X → Y → Type 0) → List X → List Y → Type 0
OfEach R [] ys = Unit {0}
OfEach R (x ∷ xs) [] = Unit {0}
OfEach R (x ∷ xs) (y ∷ ys) = R x y × OfEach R xs ys

-- each item of the second list whose neighbour in the first passes the test
abbrev pub kept_beside : {X Y : Type 0} → (X → Bool) → List X → List Y → List Y
kept_beside p xs ys = map (λ z. z.1) (filter (λ z. p z.0) (zip xs ys))

-- each item of the second list, changed by the item of the first at its place, if there is one
abbrev pub changed_beside : {X Y : Type 0} → (X → Y → Y) → List X → List Y → List Y
changed_beside f [] ys = ys
changed_beside f (x ∷ xs) [] = []
changed_beside f (x ∷ xs) (y ∷ ys) = f x y ∷ changed_beside f xs ys
