-- Membership in lists. (Own rules.)
use Rattle.std.specs.Prelude.{◌≡◌, ◌⊎◌, List, [], ◌∷◌}

-- x is in the list
abbrev pub Among : {X : Type 0} → X → List X → Type 0
Among x [] = ⊥
Among x (y ∷ ys) = (x ≡ y) ⊎ Among x ys

-- no two items are equal
abbrev pub AllDistinct : {X : Type 0} → List X → Type 0
AllDistinct [] = Unit {0}
AllDistinct (x ∷ xs) = (Among x xs → ⊥) × AllDistinct xs
