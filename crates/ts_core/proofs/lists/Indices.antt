-- Items by their indices: each index below the length has one, and a mapped one comes from an item.
use Rattle.std.proofs.Common.{◌≡◌, ◌<◌, ℕ, zero, suc, List, [], ◌∷◌, length, map, refl, arith}
use Rattle.std.proofs.lemmas.Option.{same_Some}
use Rattle.ts_core.specs.lists.Numbered.{IsAt}

pub item_at : {X : Type 0} (xs : List X) (n : ℕ) → n < length xs → (x : X) × IsAt xs n x
item_at [] n l = absurd (let z : ⊥ = omega arith in z)
item_at (x ∷ xs) zero l = (x, refl)
item_at (x ∷ xs) (suc n) l = item_at xs n (omega arith)

pub at_map_back : {X Y : Type 0} (f : X → Y) (xs : List X) (n : ℕ) (y : Y) → IsAt (map f xs) n y → (x : X) × IsAt xs n x × (f x ≡ y)
at_map_back f [] n y h = absurd (cc)
at_map_back f (x ∷ xs) zero y h = (x, refl, same_Some (f x) y h)
at_map_back f (x ∷ xs) (suc n) y h = at_map_back f xs n y h
