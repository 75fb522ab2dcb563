-- Members of two joined lists, of a filtered list, of distinct items without one, and of images.
use Rattle.std.proofs.lemmas.Bool.{or_cases, or_left, or_right}
use Rattle.std.specs.List.{list_any, slice_get}
use Rattle.std.proofs.Common.{◌≡◌, Bool, true, false, cond, List, [], ◌∷◌, ◌++◌, ◌⊎◌, ℕ, zero, suc, Some, filter, map, refl, sym, ◌∙◌, ap, inl, inr, subst, ⊎_elim, true≢false}
use Rattle.std.proofs.lemmas.Option.{same_Some}
use Rattle.ts_core.specs.lists.Members.{Among, AllDistinct}

-- an index of x in a list
unfoldable pub Split : {X : Type 0} → X → List X → Type 0
Split {X} x ys = (us : List X) × ((vs : List X) × (ys ≡ us ++ x ∷ vs))

pub split_at : {X : Type 0} (x : X) (ys : List X) → Among x ys → Split x ys
unfolding Split
split_at x [] h = absurd h
split_at {X} x (y ∷ ys) h =
    ⊎_elim {C = Split x (y ∷ ys)} (λ e. ([], (ys, ap (λ z. z ∷ ys) (sym e)))) (λ k. let s = split_at x ys k in (y ∷ s.0, (s.1.0, ap (λ zs. y ∷ zs) s.1.1))) h

pub no_members : {X : Type 0} (xs : List X) → ((x : X) → Among x xs → ⊥) → xs ≡ []
no_members [] h = refl
no_members (x ∷ xs) h = absurd (h x (inl refl))

module _ {X : Type 0} where
  pub Among-left : (z : X) (us vs : List X) → Among z us → Among z (us ++ vs)
  Among-left z [] vs h = absurd h
  Among-left z (u ∷ us) vs h = ⊎_elim {C = Among z (u ∷ (us ++ vs))} (λ e. inl e) (λ k. inr (Among-left z us vs k)) h

  pub Among-right : (z : X) (us vs : List X) → Among z vs → Among z (us ++ vs)
  Among-right z [] vs h = h
  Among-right z (u ∷ us) vs h = inr (Among-right z us vs h)

  pub Among-append : (z : X) (us vs : List X) → Among z (us ++ vs) → Among z us ⊎ Among z vs
  Among-append z [] vs h = inr h
  Among-append z (u ∷ us) vs h =
      ⊎_elim {C = Among z (u ∷ us) ⊎ Among z vs} (λ e. inl (inl e))
      (λ k. ⊎_elim {C = Among z (u ∷ us) ⊎ Among z vs} (λ a. inl (inr a)) (λ b. inr b) (Among-append z us vs k)) h

  -- x taken out of the middle: what is left, and that it is another
  pub out_of_middle : (z x : X) (us vs : List X) → Among z (us ++ x ∷ vs) → (z ≡ x) ⊎ Among z (us ++ vs)
  out_of_middle z x us vs h =
      ⊎_elim {C = (z ≡ x) ⊎ Among z (us ++ vs)} (λ a. inr (Among-left z us vs a))
      (λ b. ⊎_elim {C = (z ≡ x) ⊎ Among z (us ++ vs)} (λ e. inl e) (λ k. inr (Among-right z us vs k)) b)
      (Among-append z us (x ∷ vs) h)

  pub into_middle : (z x : X) (us vs : List X) → Among z (us ++ vs) → Among z (us ++ x ∷ vs)
  into_middle z x us vs h =
      ⊎_elim {C = Among z (us ++ x ∷ vs)} (λ a. Among-left z us (x ∷ vs) a) (λ b. Among-right z us (x ∷ vs) (inr b)) (Among-append z us vs h)

  pub at_middle : (x : X) (us vs : List X) → Among x (us ++ x ∷ vs)
  at_middle x us vs = Among-right x us (x ∷ vs) (inl refl)

  -- of distinct ones, what is left is distinct, and x is not among it
  pub distinct_without : (x : X) (us vs : List X) → AllDistinct (us ++ x ∷ vs) → AllDistinct (us ++ vs) × (Among x (us ++ vs) → ⊥)
  distinct_without x [] vs h = (h.1, h.0)
  distinct_without x (u ∷ us) vs h =
      let ih = distinct_without x us vs h.1 in (
        (λ k. h.0 (into_middle u x us vs k), ih.0),
        ⊎_elim {C = ⊥} (λ e. h.0 (subst (λ z. Among z (us ++ x ∷ vs)) e (at_middle x us vs))) ih.1,
      )

  -- lists that share nothing, each distinct, are distinct together
  pub AllDistinct-append : (us vs : List X) → AllDistinct us → AllDistinct vs → ((z : X) → Among z us → Among z vs → ⊥) → AllDistinct (us ++ vs)
  AllDistinct-append [] vs d e apart = e
  AllDistinct-append (u ∷ us) vs d e apart = (
    λ k. ⊎_elim {C = ⊥} d.0 (apart u (inl refl)) (Among-append u us vs k),
    AllDistinct-append us vs d.1 e (λ z a b. apart z (inr a) b),
  )

-- ---- filters

filter_step : {X : Type 0} (p : X → Bool) (z x : X) (zs : List X) (b : Bool) → p x ≡ b → (Among z zs → p z ≡ true) → Among z (cond b (x ∷ zs) zs) → p z ≡ true
filter_step p z x zs true e ih h = ⊎_elim {C = p z ≡ true} (λ q. ap p q ∙ e) ih h
filter_step p z x zs false e ih h = ih h

module _ {X : Type 0} (p : X → Bool) where
  -- an item of the filtered list passes
  pub Among-filter_passes : (z : X) (xs : List X) → Among z (filter p xs) → p z ≡ true
  Among-filter_passes z [] h = absurd h
  Among-filter_passes z (x ∷ xs) h = filter_step p z x (filter p xs) (p x) refl (Among-filter_passes z xs) h

  -- and was there
  pub Among-filter_was : (z : X) (xs : List X) → Among z (filter p xs) → Among z xs
  Among-filter_was z [] h = h
  Among-filter_was z (x ∷ xs) h =
      elim (p x) as (λ b. Among z (cond b (x ∷ filter p xs) (filter p xs)) → Among z (x ∷ xs)) [
        | true ↦ λ k. ⊎_elim {C = Among z (x ∷ xs)} (λ e. inl e) (λ q. inr (Among-filter_was z xs q)) k
        | false ↦ λ k. inr (Among-filter_was z xs k)
      ] h

  -- an item that passes stays
  pub Among-filter_stays : (z : X) (xs : List X) → Among z xs → p z ≡ true → Among z (filter p xs)
  Among-filter_stays z [] h t = h
  Among-filter_stays z (x ∷ xs) h t =
      elim (p x) as (λ b. p x ≡ b → Among z (cond b (x ∷ filter p xs) (filter p xs))) [
        | true ↦ λ e. ⊎_elim {C = Among z (x ∷ filter p xs)} (λ q. inl q) (λ q. inr (Among-filter_stays z xs q t)) h
        | false ↦ λ e. ⊎_elim {C = Among z (filter p xs)} (λ q. absurd (true≢false (sym t ∙ ap p q ∙ e))) (λ q. Among-filter_stays z xs q t) h
      ] refl

  pub AllDistinct-filter : (xs : List X) → AllDistinct xs → AllDistinct (filter p xs)
  AllDistinct-filter [] h = tt
  AllDistinct-filter (x ∷ xs) h =
      elim (p x) as (λ b. AllDistinct (cond b (x ∷ filter p xs) (filter p xs))) [
        | true ↦ (λ k. h.0 (Among-filter_was x xs k), AllDistinct-filter xs h.1)
        | false ↦ AllDistinct-filter xs h.1
      ]

  -- where all pass, a filter leaves all
  pub filter-all : (xs : List X) → ((x : X) → Among x xs → p x ≡ true) → filter p xs ≡ xs
  filter-all [] h = refl
  filter-all (x ∷ xs) h = ap (λ b. cond b (x ∷ filter p xs) (filter p xs)) (h x (inl refl)) ∙ ap (λ zs. x ∷ zs) (filter-all xs (λ y k. h y (inr k)))

  -- where none passes, it leaves none
  pub filter-none : (xs : List X) → ((x : X) → Among x xs → p x ≡ false) → filter p xs ≡ []
  filter-none [] h = refl
  filter-none (x ∷ xs) h = ap (λ b. cond b (x ∷ filter p xs) (filter p xs)) (h x (inl refl)) ∙ filter-none xs (λ y k. h y (inr k))

-- a filter of a filter, where the second passes all that the first does
pub filter-filter : {X : Type 0} (p q : X → Bool) → ((x : X) → p x ≡ true → q x ≡ true) → (xs : List X) → filter p (filter q xs) ≡ filter p xs
filter-filter p q h [] = refl
filter-filter p q h (x ∷ xs) =
    elim (p x) as (λ b. p x ≡ b → filter p (cond (q x) (x ∷ filter q xs) (filter q xs)) ≡ cond b (x ∷ filter p xs) (filter p xs)) [
      | true ↦ λ e. ap (λ b. filter p (cond b (x ∷ filter q xs) (filter q xs))) (h x e) ∙ ap (λ b. cond b (x ∷ filter p (filter q xs)) (filter p (filter q xs))) e ∙ ap (λ zs. x ∷ zs) (filter-filter p q h xs)
      | false ↦ λ e. elim (q x) as (λ b. filter p (cond b (x ∷ filter q xs) (filter q xs)) ≡ filter p xs) [
        | true ↦ ap (λ b. cond b (x ∷ filter p (filter q xs)) (filter p (filter q xs))) e ∙ filter-filter p q h xs
        | false ↦ filter-filter p q h xs
      ]
    ] refl

-- ---- the members that a test of equality finds

module _ {X : Type 0} (same : X → X → Bool) (exact : (x y : X) → same x y ≡ true → x ≡ y) (itself : (x : X) → same x x ≡ true) where
  pub Among-from_any : (x : X) (xs : List X) → list_any (same x) xs ≡ true → Among x xs
  Among-from_any x [] h = absurd (true≢false (sym h))
  Among-from_any x (y ∷ ys) h = ⊎_elim {C = Among x (y ∷ ys)} (λ e. inl (exact x y e)) (λ k. inr (Among-from_any x ys k)) (or_cases (same x y) (list_any (same x) ys) h)

  pub any-from_Among : (x : X) (xs : List X) → Among x xs → list_any (same x) xs ≡ true
  any-from_Among x [] h = absurd h
  any-from_Among x (y ∷ ys) h = ⊎_elim {C = list_any (same x) (y ∷ ys) ≡ true} (λ e. or_left _ _ (ap (same x) (sym e) ∙ itself x)) (λ k. or_right (same x y) _ (any-from_Among x ys k)) h

-- ---- the members of a list of images

module _ {X Y : Type 0} (f : X → Y) where
  pub Among-map : (x : X) (xs : List X) → Among x xs → Among (f x) (map f xs)
  Among-map x [] a = a
  Among-map x (y ∷ ys) a = ⊎_elim {C = Among (f x) (map f (y ∷ ys))} (λ e. inl (ap f e)) (λ k. inr (Among-map x ys k)) a

  pub Among-map_as : (x : X) (xs : List X) (y : Y) → Among x xs → f x ≡ y → Among y (map f xs)
  Among-map_as x xs y a e = subst (λ z. Among z (map f xs)) e (Among-map x xs a)

  pub map_back : (xs : List X) (y : Y) → Among y (map f xs) → (x : X) × Among x xs × (f x ≡ y)
  map_back [] y a = absurd a
  map_back (x ∷ xs) y a =
      ⊎_elim {C = (z : X) × Among z (x ∷ xs) × (f z ≡ y)} (λ e. (x, inl refl, sym e)) (λ k. let s = map_back xs y k in (s.0, inr s.1, s.2)) a

  pub at_map_of : (xs : List X) (n : ℕ) (x : X) → slice_get xs n ≡ Some x → slice_get (map f xs) n ≡ Some (f x)
  at_map_of [] n x h = absurd (cc)
  at_map_of (y ∷ ys) zero x h = ap (λ z. Some (f z)) (same_Some y x h)
  at_map_of (y ∷ ys) (suc n) x h = at_map_of ys n x h
