-- Steps of lists: one more mapped item, tests of mapped items, those that pass one, an item less, and one more byte of a
-- slice.
use Rattle.std.proofs.Common.{◌≡◌, ◌≤◌, ◌<◌, ◌+◌, ◌-◌, ◌∙◌, ℕ, suc, take, drop, get_or, slice_range, length-drop, Bool, true, false, cond, ◌||◌, List, [], ◌∷◌, ◌++◌, length, filter, map, arith, refl, ap}
pub use Rattle.std.proofs.lemmas.List.{map_push as map-push}
use Rattle.std.proofs.lemmas.List.{take_more, get_or-drop}
use Rattle.std.specs.List.{AllByRecursion, list_any, remove}

pub all_push : {X : Type 0} (P : X → Type 0) (xs : List X) (x : X) → AllByRecursion P xs → P x → AllByRecursion P (xs ++ x ∷ [])
all_push P [] x a p = (p, tt)
all_push P (z ∷ xs) x a p = (a.0, all_push P xs x a.1 p)

pub all_append : {X : Type 0} (P : X → Type 0) (xs ys : List X) → AllByRecursion P xs → AllByRecursion P ys → AllByRecursion P (xs ++ ys)
all_append P [] ys a b = b
all_append P (x ∷ xs) ys a b = (a.0, all_append P xs ys a.1 b)

pub any-map : {X Y : Type 0} (p : Y → Bool) (f : X → Y) (xs : List X) → list_any p (map f xs) ≡ list_any (λ x. p (f x)) xs
any-map p f [] = refl
any-map p f (x ∷ xs) = ap (λ b. p (f x) || b) (any-map p f xs)

pub filter-map : {X Y : Type 0} (p : Y → Bool) (f : X → Y) (xs : List X) → filter p (map f xs) ≡ map f (filter (λ x. p (f x)) xs)
filter-map p f [] = refl
filter-map p f (x ∷ xs) =
    elim (p (f x)) as (λ b. cond b (f x ∷ filter p (map f xs)) (filter p (map f xs)) ≡ map f (cond b (x ∷ filter (λ y. p (f y)) xs) (filter (λ y. p (f y)) xs))) [
      | true ↦ ap (λ ys. f x ∷ ys) (filter-map p f xs)
      | false ↦ filter-map p f xs
    ]

pub all_filter : {X : Type 0} (P : X → Type 0) (p : X → Bool) (xs : List X) → AllByRecursion P xs → AllByRecursion P (filter p xs)
all_filter P p [] a = tt
all_filter P p (x ∷ xs) a = elim (p x) as (λ b. AllByRecursion P (cond b (x ∷ filter p xs) (filter p xs))) [ true ↦ (a.0, all_filter P p xs a.1) | false ↦ all_filter P p xs a.1 ]

pub map-remove : {X Y : Type 0} (f : X → Y) (xs : List X) (i : ℕ) → map f (remove xs i) ≡ remove (map f xs) i
map-remove f (x ∷ xs) (suc i) = ap (λ ys. f x ∷ ys) (map-remove f xs i)
map-remove f [] (suc i) = refl
map-remove f _ _ = refl

pub length-filter : {X : Type 0} (p : X → Bool) (xs : List X) → length (filter p xs) ≤ length xs
length-filter p [] = omega arith
length-filter p (x ∷ xs) =
    let ih = length-filter p xs in
    elim (p x) as (λ b. length (cond b (x ∷ filter p xs) (filter p xs)) ≤ length (x ∷ xs)) [ true ↦ omega arith | false ↦ omega arith ]

-- one more byte of a slice
pub slice_step : (text : List ℕ) (from i : ℕ) → from ≤ i → i < length text → slice_range text from (i + 1) ≡ slice_range text from i ++ get_or text i 0 ∷ []
slice_step text from i le lt =
    let n : (i + 1) - from ≡ (i - from) + 1 = omega arith in
    let within : i - from < length (drop from text) = omega (arith, length-drop from text) in
    let back : from + (i - from) ≡ i = omega arith in
    let byte : get_or (drop from text) (i - from) 0 ≡ get_or text i 0 = get_or-drop from text (i - from) 0 ∙ ap (λ k. get_or text k 0) back in
    ap (λ k. take k (drop from text)) n ∙ take_more (drop from text) (i - from) 0 within ∙ ap (λ b. take (i - from) (drop from text) ++ b ∷ []) byte
