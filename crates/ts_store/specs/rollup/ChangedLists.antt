-- Lists side by side, before and after a change of one of them. (Own rules.)
use Rattle.std.specs.Prelude.{◌≡◌, ◌⊎◌, List, [], ◌∷◌}

-- R relates each item of xs to the items of ys and zs at its index; from the end of xs on, zs has the items of ys
abbrev pub ChangesBeside : {X Y : Type 0} → (X → Y → Y → Type 0) → List X → List Y → List Y → Type 0
ChangesBeside R [] ys zs = zs ≡ ys
ChangesBeside R (x ∷ xs) [] zs = zs ≡ []
ChangesBeside R (x ∷ xs) (y ∷ ys) [] = ⊥
ChangesBeside R (x ∷ xs) (y ∷ ys) (z ∷ zs) = R x y z × ChangesBeside R xs ys zs

-- The first item of ys that doesn't rest beside the item of xs at its index is changed; no other one is.
abbrev pub FirstChanges : {X Y : Type 0} → (X → Y → Type 0) → (X → Y → Y → Type 0) → List X → List Y → List Y → Type 0
FirstChanges Rests Changes [] ys zs = ⊥
FirstChanges Rests Changes (x ∷ xs) [] zs = ⊥
FirstChanges Rests Changes (x ∷ xs) (y ∷ ys) [] = ⊥
FirstChanges Rests Changes (x ∷ xs) (y ∷ ys) (z ∷ zs) =
    (Changes x y z × (zs ≡ ys)) ⊎ (Rests x y × (z ≡ y) × FirstChanges Rests Changes xs ys zs)
