-- Numbered lists, and one more item at the end.
use Rattle.std.proofs.Common.{◌≡◌, ℕ, zero, suc, ◌+◌, ◌<◌, List, [], ◌∷◌, ◌++◌, length, map, get_or, Option, Some, None, refl, sym, ◌∙◌, ap, subst, inl, inr, ◌⊎◌, ⊎_elim, arith, Bool, true, false, cond, add-zero, zero-add, IfNone, IfOk, OnOk, OnErr, Result, Ok, Err}
use Rattle.std.proofs.lemmas.Option.{slice_get_within, slice_get-get_or, same_Some}
use Rattle.ts_core.specs.lists.Members.{Among, AllDistinct}
use Rattle.ts_core.proofs.lists.MembersLemmas.{AllDistinct-append, map_back}
use Rattle.ts_core.specs.lists.Numbered.{IsAt, numbers_where_from, numbers_where}

module _ {X : Type 0} where
  pub at_within : (xs : List X) (n : ℕ) (x : X) → IsAt xs n x → n < length xs
  at_within xs n x h = slice_get_within xs n x h

  pub at_among : (xs : List X) (n : ℕ) (x : X) → IsAt xs n x → Among x xs
  at_among [] n x h = absurd (cc)
  at_among (y ∷ ys) zero x h = inl (sym (same_Some y x h))
  at_among (y ∷ ys) (suc n) x h = inr (at_among ys n x h)

  pub among_at : (xs : List X) (x : X) → Among x xs → (n : ℕ) × IsAt xs n x
  among_at [] x h = absurd h
  among_at (y ∷ ys) x h =
      ⊎_elim {C = (n : ℕ) × IsAt (y ∷ ys) n x} (λ e. (0, ap Some (sym e))) (λ k. let s = among_at ys x k in (suc s.0, s.1)) h

  pub at_end : (xs : List X) (x : X) → IsAt (xs ++ x ∷ []) (length xs) x
  at_end [] x = refl
  at_end (y ∷ xs) x = at_end xs x

  pub same_at : (xs : List X) (n : ℕ) (x y : X) → IsAt xs n x → IsAt xs n y → x ≡ y
  same_at xs n x y h k = same_Some x y (sym h ∙ k)

  -- one that isn't there is added
  pub once_more : (xs : List X) (x : X) → AllDistinct xs → (Among x xs → ⊥) → AllDistinct (xs ++ x ∷ [])
  once_more xs x d other =
      AllDistinct-append xs (x ∷ []) d (λ k. absurd k, tt)
      (λ z a b. ⊎_elim {C = ⊥} (λ e. other (subst (λ y. Among y xs) e a)) (λ k. absurd k) b)

-- ---- the numbers of those that pass

module _ {X : Type 0} (p : X → Bool) where
  push_case : (n : ℕ) (x : X) (b : Bool) (ns ms : List ℕ) → cond b (n ∷ (ns ++ ms)) (ns ++ ms) ≡ cond b (n ∷ ns) ns ++ ms
  push_case n x true ns ms = refl
  push_case n x false ns ms = refl

  numbers_from-push : (n : ℕ) (xs : List X) (x : X) → numbers_where_from p n (xs ++ x ∷ []) ≡ numbers_where_from p n xs ++ cond (p x) ((n + length xs) ∷ []) []
  numbers_from-push n [] x = ap (λ m. cond (p x) (m ∷ []) []) (sym (add-zero n))
  numbers_from-push n (y ∷ ys) x =
      let rest : numbers_where_from p (n + 1) (ys ++ x ∷ []) ≡ numbers_where_from p (n + 1) ys ++ cond (p x) ((n + length (y ∷ ys)) ∷ []) [] =
      numbers_from-push (n + 1) ys x ∙ ap (λ m. numbers_where_from p (n + 1) ys ++ cond (p x) (m ∷ []) []) (let e : n + 1 + length ys ≡ n + suc (length ys) = omega arith in e) in
      ap (λ ns. cond (p y) (n ∷ ns) ns) rest ∙ push_case n x (p y) (numbers_where_from p (n + 1) ys) (cond (p x) ((n + length (y ∷ ys)) ∷ []) [])

  -- one more after the others
  pub numbers_where-push : (xs : List X) (x : X) → numbers_where p (xs ++ x ∷ []) ≡ numbers_where p xs ++ cond (p x) (length xs ∷ []) []
  numbers_where-push xs x = numbers_from-push 0 xs x ∙ ap (λ m. numbers_where p xs ++ cond (p x) (m ∷ []) []) (zero-add (length xs))

  pub numbers_from-none : (n : ℕ) (xs : List X) → ((x : X) → Among x xs → p x ≡ false) → numbers_where_from p n xs ≡ []
  numbers_from-none n [] none = refl
  numbers_from-none n (y ∷ ys) none =
      ap (λ b. cond b (n ∷ numbers_where_from p (n + 1) ys) (numbers_where_from p (n + 1) ys)) (none y (inl refl)) ∙ numbers_from-none (n + 1) ys (λ x k. none x (inr k))

  -- two lists whose members pass alike have the same numbers
  pub numbers_from-map : {Y : Type 0} (f : Y → X) (q : Y → Bool) (n : ℕ) (ys : List Y) → ((y : Y) → Among y ys → p (f y) ≡ q y)
      → numbers_where_from p n (map f ys) ≡ numbers_where_from q n ys
  numbers_from-map f q n [] alike = refl
  numbers_from-map f q n (y ∷ ys) alike =
      ap (λ b. cond b (n ∷ numbers_where_from p (n + 1) (map f ys)) (numbers_where_from p (n + 1) (map f ys))) (alike y (inl refl))
      ∙ ap (λ ns. cond (q y) (n ∷ ns) ns) (numbers_from-map f q (n + 1) ys (λ z k. alike z (inr k)))

-- ---- members and indices

module _ {X : Type 0} where
  -- of distinct ones each has one index
  pub same_place : (xs : List X) (d : X) (i j : ℕ) → AllDistinct xs → i < length xs → j < length xs → get_or xs i d ≡ get_or xs j d → i ≡ j
  same_place [] d i j once l k e = absurd (omega arith)
  same_place (x ∷ xs) d zero zero once l k e = refl
  same_place (x ∷ xs) d zero (suc j) once l k e = absurd (once.0 (subst (λ y. Among y xs) (sym e) (at_among xs j (get_or xs j d) (slice_get-get_or xs j d (omega (arith, k))))))
  same_place (x ∷ xs) d (suc i) zero once l k e = absurd (once.0 (subst (λ y. Among y xs) e (at_among xs i (get_or xs i d) (slice_get-get_or xs i d (omega (arith, l))))))
  same_place (x ∷ xs) d (suc i) (suc j) once l k e = ap suc (same_place xs d i j once.1 (omega (arith, l)) (omega (arith, k)) e)

module _ {X Y : Type 0} (f : X → Y) where
  pub AllDistinct-map : (xs : List X) → AllDistinct xs → ((x y : X) → Among x xs → Among y xs → f x ≡ f y → x ≡ y) → AllDistinct (map f xs)
  AllDistinct-map [] once apart = tt
  AllDistinct-map (x ∷ xs) once apart = (
    λ a. let y = map_back f xs (f x) a in once.0 (subst (λ z. Among z xs) (apart y.0 x (inr y.1) (inl refl) y.2) y.1),
    AllDistinct-map xs once.1 (λ y z a b e. apart y z (inr a) (inr b) e),
  )

  -- where no member is distinguished
  pub map_alike : (g : X → Y) (xs : List X) → ((x : X) → Among x xs → f x ≡ g x) → map f xs ≡ map g xs
  map_alike g [] h = refl
  map_alike g (x ∷ xs) h = ap (λ y. y ∷ map f xs) (h x (inl refl)) ∙ ap (λ ys. g x ∷ ys) (map_alike g xs (λ y k. h y (inr k)))

-- ---- outcomes

pub none_so : {X : Type 0} {P Q : Type 0} (o : Option X) → (P → Q) → IfNone o P → IfNone o Q
none_so None f h = f h
none_so (Some x) f h = tt

pub outcome : {X E : Type 0} {P Q : Type 0} (r : Result X E) → OnOk r P → OnErr r Q → P ⊎ Q
outcome (Ok x) p q = inl p
outcome (Err e) p q = inr q

pub ok_with : {X E : Type 0} {P R : X → Type 0} {Q : Type 0} (r : Result X E) → ((x : X) → P x → Q → R x) → IfOk r P → OnOk r Q → IfOk r R
ok_with (Ok x) f p q = f x p q
ok_with (Err e) f p q = tt
