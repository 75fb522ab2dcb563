-- What holds of the items of a list holds of those of its permutation.
use Rattle.std.proofs.Common.{refl, sym, subst, List, [], ◌∷◌, inl, inr}
use Rattle.std.specs.List.{AllByRecursion, All}
use Rattle.std.specs.List.Sorted.{IsPermutation}
use Rattle.std.proofs.lemmas.List.Sorted.{All-permutation, IsPermutation-sym}
use Rattle.std.proofs.lemmas.List.Elements.{All-nil, All-cons, All-head, All-tail}
use Rattle.ts_core.specs.lists.Members.{Among}

all_at : {X : Type 0} (P : X → Type 0) (xs : List X) → AllByRecursion P xs → All P xs
all_at P [] a = All-nil P
all_at P (x ∷ xs) a = All-cons P x xs a.0 (all_at P xs a.1)

all_by : {X : Type 0} (P : X → Type 0) (xs : List X) → All P xs → AllByRecursion P xs
all_by P [] a = tt
all_by P (x ∷ xs) a = (All-head P x xs a, all_by P xs (All-tail P x xs a))

pub moved_all : {X : Type 0} (P : X → Type 0) (xs ys : List X) → IsPermutation xs ys → AllByRecursion P xs → AllByRecursion P ys
moved_all P xs ys p a = all_by P ys (All-permutation P xs ys p (all_at P xs a))

members : {X : Type 0} (xs : List X) → AllByRecursion (λ x. Among x xs) xs
members [] = tt
members (x ∷ xs) = (inl refl, wider x xs xs (members xs))
  where
    wider : {X : Type 0} (x : X) (xs ys : List X) → AllByRecursion (λ y. Among y xs) ys → AllByRecursion (λ y. Among y (x ∷ xs)) ys
    wider x xs [] a = tt
    wider x xs (y ∷ ys) a = (inr a.0, wider x xs ys a.1)

pub pick : {X : Type 0} (P : X → Type 0) (x : X) (xs : List X) → AllByRecursion P xs → Among x xs → P x
pick P x [] a h = absurd h
pick P x (y ∷ xs) a (inl e) = subst P (sym e) a.0
pick P x (y ∷ xs) a (inr h) = pick P x xs a.1 h

pub moved_among : {X : Type 0} (xs ys : List X) (x : X) → IsPermutation xs ys → Among x xs → Among x ys
moved_among xs ys x p h = pick (λ z. Among z ys) x xs (moved_all (λ z. Among z ys) ys xs (IsPermutation-sym xs ys p) (members ys)) h
