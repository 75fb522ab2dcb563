-- The members of a list that grows at its end.
use Rattle.std.proofs.Common.{◌≡◌, List, [], ◌∷◌, ◌++◌, inl, inr}
use Rattle.ts_core.specs.lists.Members.{Among}

pub among_push : {X : Type 0} (xs : List X) (y x : X) → Among x xs → Among x (xs ++ y ∷ [])
among_push [] y x h = absurd h
among_push (z ∷ xs) y x (inl e) = inl e
among_push (z ∷ xs) y x (inr h) = inr (among_push xs y x h)

pub among_last : {X : Type 0} (xs : List X) (y x : X) → x ≡ y → Among x (xs ++ y ∷ [])
among_last [] y x e = inl e
among_last (z ∷ xs) y x e = inr (among_last xs y x e)
