-- What is left of a count, and of a list, after its first items.
use Rattle.std.proofs.Common.{◌≡◌, ◌∙◌, ◌+◌, ◌-◌, ◌<◌, ◌≤◌, ℕ, suc, List, [], ◌∷◌, length, map, drop, drop-cons, get_or, add-one, sym, ap, arith}
use Rattle.std.proofs.lemmas.List.{drop_all}

pub one_left : (n i : ℕ) → i < n → n - i ≡ suc (n - (i + 1))
one_left n i lt = omega arith

-- the first of those that are left, and the rest
pub first_left : {X Y : Type 0} (f : X → Y) (xs : List X) (i : ℕ) (x : X) → i < length xs → x ≡ get_or xs i x → map f (drop i xs) ≡ f x ∷ map f (drop (i + 1) xs)
first_left f xs i x l e =
    let first : drop i xs ≡ get_or xs i x ∷ drop (i + 1) xs = rw add-one (drop-cons xs i x l) in
    ap (map f) first ∙ ap (λ y. f y ∷ map f (drop (i + 1) xs)) (sym e)

pub none_left : {X Y : Type 0} (f : X → Y) (xs : List X) (i : ℕ) → length xs ≤ i → map f (drop i xs) ≡ []
none_left f xs i l = ap (map f) (drop_all i xs l)
