-- The ends of loops over slices side by side.
use Rattle.std.proofs.Common.{◌≡◌, ◌⊎◌, inl, inr, List, [], ◌∷◌, length, map, refl, ap, subst, arith, Bor, Iter}
use Rattle.std.specs.Prelude.{Option, None}
use Rattle.std.specs.List.{zip}
use Rattle.std.specs.Slice.Iter.{iter_rest}
use Rattle.std.specs.Iterator.Adapters.{zip_first, zip_second}
use Rattle.std.specs.declared.iter.Zip.{Zip}
use Rattle.std.proofs.iter.Yields.{fronts}
use Rattle.std.proofs.lemmas.Iterator.{zips}
use Rattle.std.proofs.lemmas.List.{nil_from_length}
use Rattle.std.proofs.lemmas.Slice.Zip.{either_empty_from_Zip}
use Rattle.ts_core.specs.lists.Beside.{OfEach}

-- one of three slices has ended
pub one_empty : {A B C : Type 0} (s t : Zip (Zip (Iter A) (Iter B)) (Iter C)) (r : Option ((Bor A × Bor B) × Bor C)) → r ≡ None → zips (zips fronts fronts) fronts s r t
    → ((iter_rest (zip_first (zip_first s)) ≡ []) ⊎ (iter_rest (zip_second (zip_first s)) ≡ [])) ⊎ (iter_rest (zip_second s) ≡ [])
one_empty {A} {B} {C} s t r e h = by (subst (λ o. zips (zips fronts fronts) fronts s o t) e h)
  where
    by : ((u : Zip (Iter A) (Iter B)) × zips fronts fronts (zip_first s) None u) ⊎ ((u : Iter C) × fronts (zip_second s) None u)
        → ((iter_rest (zip_first (zip_first s)) ≡ []) ⊎ (iter_rest (zip_second (zip_first s)) ≡ [])) ⊎ (iter_rest (zip_second s) ≡ [])
    by (inl p) = inl (either_empty_from_Zip (zip_first s) p.0 None refl p.1)
    by (inr p) = inr (nil_from_length _ p.1.0)

-- then no place is left that all have
pub none_of_two : {A B X Y : Type 0} (R : X → Y → Type 0) (v : A → X) (w : B → Y) (xs : List A) (ys : List B) → (xs ≡ []) ⊎ (ys ≡ []) → OfEach R (map v xs) (map w ys)
none_of_two R v w [] ys e = tt
none_of_two R v w (x ∷ xs) [] e = tt
none_of_two R v w (x ∷ xs) (y ∷ ys) (inl e) = absurd (omega (arith, ap length e))
none_of_two R v w (x ∷ xs) (y ∷ ys) (inr e) = absurd (omega (arith, ap length e))

pub none_of_three : {A B C X Y : Type 0} (R : X × B → Y → Type 0) (v : A → X) (w : C → Y) (xs : List A) (ys : List B) (zs : List C) → ((xs ≡ []) ⊎ (ys ≡ [])) ⊎ (zs ≡ []) → OfEach R (zip (map v xs) ys) (map w zs)
none_of_three R v w [] ys zs e = tt
none_of_three R v w (x ∷ xs) [] zs e = tt
none_of_three R v w (x ∷ xs) (y ∷ ys) [] e = tt
none_of_three R v w (x ∷ xs) (y ∷ ys) (z ∷ zs) (inl (inl e)) = absurd (omega (arith, ap length e))
none_of_three R v w (x ∷ xs) (y ∷ ys) (z ∷ zs) (inl (inr e)) = absurd (omega (arith, ap length e))
none_of_three R v w (x ∷ xs) (y ∷ ys) (z ∷ zs) (inr e) = absurd (omega (arith, ap length e))
