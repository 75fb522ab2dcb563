-- What holds of lists side by side, after a change too; and of the items that pass a test, all but one.
use Rattle.std.proofs.Common.{◌≡◌, ◌<◌, ℕ, zero, suc, min, Bool, true, false, cond, List, [], ◌∷◌, length, filter, map, take, set, get_or, refl, ap, ap₂, arith}
use Rattle.std.specs.List.{AllByRecursion, AllZip, remove}
use Rattle.ts_core.specs.lists.Beside.{OfEach, changed_beside}

-- ---- a relation at each place that both lists have

module _ {X Y : Type 0} (R : X → Y → Type 0) where
  pub OfEach-weaker : (S : X → Y → Type 0) → ((x : X) (y : Y) → R x y → S x y) → (xs : List X) (ys : List Y) → OfEach R xs ys → OfEach S xs ys
  OfEach-weaker S h (x ∷ xs) (y ∷ ys) a = (h x y a.0, OfEach-weaker S h xs ys a.1)
  OfEach-weaker S h _ ys a = tt

  -- each item is changed by the one beside it
  pub OfEach-beside : (S : X → Y → Type 0) (f : X → Y → Y) → ((x : X) (y : Y) → R x y → S x (f x y)) → (xs : List X) (ys : List Y) → OfEach R xs ys → OfEach S xs (changed_beside f xs ys)
  OfEach-beside S f h (x ∷ xs) (y ∷ ys) a = (h x y a.0, OfEach-beside S f h xs ys a.1)
  OfEach-beside S f h _ ys a = tt

-- ---- the items that pass a test, all but one

-- of the answers of a test, only the one at the index is no
abbrev pub FailsAt : List Bool → ℕ → Type 0
FailsAt [] n = ⊥
FailsAt (b ∷ bs) zero = (b ≡ false) × AllByRecursion (λ c. c ≡ true) bs
FailsAt (b ∷ bs) (suc n) = (b ≡ true) × FailsAt bs n

all_pass : {X : Type 0} (p : X → Bool) (xs : List X) → AllByRecursion (λ c. c ≡ true) (map p xs) → filter p xs ≡ xs
all_pass p [] a = refl
all_pass p (x ∷ xs) a = ap₂ (λ b zs. cond b (x ∷ zs) zs) a.0 (all_pass p xs a.1)

pub filter-fails : {X : Type 0} (p : X → Bool) (xs : List X) (n : ℕ) → FailsAt (map p xs) n → filter p xs ≡ remove xs n
filter-fails p [] n f = absurd f
filter-fails p (x ∷ xs) zero f = ap₂ (λ b zs. cond b (x ∷ zs) zs) f.0 (all_pass p xs f.1)
filter-fails p (x ∷ xs) (suc n) f = ap₂ (λ b zs. cond b (x ∷ zs) zs) f.0 (filter-fails p xs n f.1)

-- ---- a relation at each place, of lists of one length

pub AllZip-same : {X : Type 0} (R : X → X → Type 0) → ((x : X) → R x x) → (xs : List X) → AllZip R xs xs
AllZip-same R h [] = tt
AllZip-same R h (x ∷ xs) = (h x, AllZip-same R h xs)

pub AllZip-then : {X Y Z : Type 0} (R : X → Y → Type 0) (S : Y → Z → Type 0) (T : X → Z → Type 0) → ((x : X) (y : Y) (z : Z) → R x y → S y z → T x z) → (xs : List X) (ys : List Y) (zs : List Z) → AllZip R xs ys → AllZip S ys zs → AllZip T xs zs
AllZip-then R S T h [] [] [] a b = tt
AllZip-then R S T h [] (y ∷ ys) zs a b = absurd a
AllZip-then R S T h (x ∷ xs) [] zs a b = absurd a
AllZip-then R S T h (x ∷ xs) (y ∷ ys) (z ∷ zs) a b = (h x y z a.0 b.0, AllZip-then R S T h xs ys zs a.1 b.1)
AllZip-then R S T h _ _ _ a b = absurd b

module _ {X Y : Type 0} (R : X → Y → Type 0) where
  pub AllZip-weaker : (S : X → Y → Type 0) → ((x : X) (y : Y) → R x y → S x y) → (xs : List X) (ys : List Y) → AllZip R xs ys → AllZip S xs ys
  AllZip-weaker S h [] [] a = tt
  AllZip-weaker S h (x ∷ xs) (y ∷ ys) a = (h x y a.0, AllZip-weaker S h xs ys a.1)
  AllZip-weaker S h _ _ a = absurd a

-- ---- lengths

pub length-beside : {X Y : Type 0} (f : X → Y → Y) (xs : List X) (ys : List Y) → length (changed_beside f xs ys) ≡ length ys
length-beside f (x ∷ xs) (y ∷ ys) = ap suc (length-beside f xs ys)
length-beside f _ ys = refl

-- ---- a change of the first items alone, as a loop makes it

module _ {X Y : Type 0} (f : X → Y → Y) where
  -- the items after them are as before
  pub beside-ahead : (xs : List X) (ys : List Y) (i : ℕ) (y : Y) → get_or (changed_beside f (take i xs) ys) i y ≡ get_or ys i y
  beside-ahead xs ys zero y = refl
  beside-ahead (x ∷ xs) (z ∷ ys) (suc i) y = beside-ahead xs ys i y
  beside-ahead _ ys (suc i) y = refl

  pub beside-next : (xs : List X) (ys : List Y) (i : ℕ) (x : X) (y : Y) → i < length xs → i < length ys → set (changed_beside f (take i xs) ys) i (f (get_or xs i x) (get_or ys i y)) ≡ changed_beside f (take (suc i) xs) ys
  beside-next (z ∷ xs) (w ∷ ys) zero x y l m = refl
  beside-next (z ∷ xs) (w ∷ ys) (suc i) x y l m = ap (λ (vs : List Y). f z w ∷ vs) (beside-next xs ys i x y (omega arith) (omega arith))
  beside-next _ ys i x y l m = absurd (omega arith)

  -- and so many are all
  pub beside-all : (xs : List X) (ys : List Y) (n : ℕ) → n ≡ min (length xs) (length ys) → changed_beside f (take n xs) ys ≡ changed_beside f xs ys
  beside-all xs ys zero e = none xs ys e
    where
      none : (xs : List X) (ys : List Y) → 0 ≡ min (length xs) (length ys) → ys ≡ changed_beside f xs ys
      none [] ys e = refl
      none (x ∷ xs) [] e = refl
      none (x ∷ xs) (y ∷ ys) e = absurd (omega arith)
  beside-all [] ys (suc n) e = refl
  beside-all (x ∷ xs) [] (suc n) e = refl
  beside-all (x ∷ xs) (y ∷ ys) (suc n) e = ap (λ (vs : List Y). f x y ∷ vs) (beside-all xs ys n (omega arith))
