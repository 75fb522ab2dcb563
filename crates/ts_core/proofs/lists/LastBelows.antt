-- The greatest number below another that passes a test.
use Rattle.std.proofs.lemmas.Option.{same_Some}
use Rattle.std.proofs.Common.{◌≡◌, ℕ, zero, suc, ◌+◌, ◌<◌, ◌≤◌, Bool, true, false, cond, Option, Some, None, List, [], ◌∷◌, ◌++◌, length, get_or, refl, sym, ◌∙◌, ap, inl, inr, ◌⊎◌, ⊎_elim, arith, add-one}
use Rattle.std.proofs.lemmas.List.{get_or_push, get_or_append_left}
use Rattle.std.proofs.Math.Nat.{eq-or-lt_of_le}
use Rattle.ts_core.specs.lists.LastBelow.{last_below, last_with}

pub last_below-more : (p : ℕ → Bool) (n : ℕ) → last_below p (n + 1) ≡ cond (p n) (Some n) (last_below p n)
unfolding last_below
last_below-more p n = rw (add-one n) refl

-- only what is below matters
pub last_below-same : (p q : ℕ → Bool) (n : ℕ) → ((i : ℕ) → i < n → p i ≡ q i) → last_below p n ≡ last_below q n
unfolding last_below
last_below-same p q zero h = refl
last_below-same p q (suc n) h =
    ap (λ b. cond b (Some n) (last_below p n)) (h n (omega arith)) ∙ ap (λ o. cond (q n) (Some n) o) (last_below-same p q n (λ i l. h i (omega (arith, l))))

found_case : (p : ℕ → Bool) (n i : ℕ) (b : Bool) (o : Option ℕ) → p n ≡ b → cond b (Some n) o ≡ Some i → ((i ≡ n) × (p i ≡ true)) ⊎ ((p n ≡ false) × (o ≡ Some i))
found_case p n i true o e h = inl (sym (same_Some n i h), ap p (sym (same_Some n i h)) ∙ e)
found_case p n i false o e h = inr (e, h)

-- a number that is found is below, and passes
pub last_below-some : (p : ℕ → Bool) (n i : ℕ) → last_below p n ≡ Some i → (i < n) × (p i ≡ true)
unfolding last_below
last_below-some p zero i h = absurd (cc)
last_below-some p (suc n) i h =
    ⊎_elim {C = (i < suc n) × (p i ≡ true)} (λ s. (omega (arith, s.0), s.1))
    (λ r. let s = last_below-some p n i r.1 in (omega (arith, s.0), s.1)) (found_case p n i (p n) (last_below p n) refl h)

none_case : (p : ℕ → Bool) (n : ℕ) (b : Bool) (o : Option ℕ) → p n ≡ b → cond b (Some n) o ≡ None → (p n ≡ false) × (o ≡ None)
none_case p n true o e h = absurd (cc)
none_case p n false o e h = (e, h)

-- none below passes where none is found
pub last_below-none : (p : ℕ → Bool) (n : ℕ) → last_below p n ≡ None → (j : ℕ) → j < n → p j ≡ false
unfolding last_below
last_below-none p zero h j l = absurd (omega arith)
last_below-none p (suc n) h j l =
    let s = none_case p n (p n) (last_below p n) refl h in
    let most : j ≤ n = omega arith in
    ⊎_elim {C = p j ≡ false} (λ (e : j ≡ n). ap p e ∙ s.0) (λ k. last_below-none p n s.1 j k) (eq-or-lt_of_le most)

-- and none between what is found and the end
pub last_below-gap : (p : ℕ → Bool) (n i : ℕ) → last_below p n ≡ Some i → (j : ℕ) → i < j → j < n → p j ≡ false
unfolding last_below
last_below-gap p zero i h j a l = absurd (omega arith)
last_below-gap p (suc n) i h j a l =
    ⊎_elim {C = p j ≡ false} (λ e. absurd (omega (arith, e.0)))
    (λ s.
    let most : j ≤ n = omega arith in
    ⊎_elim {C = p j ≡ false} (λ (e : j ≡ n). ap p e ∙ s.0) (λ k. last_below-gap p n i s.1 j a k) (eq-or-lt_of_le most))
    (found_case p n i (p n) (last_below p n) refl h)

module _ {X : Type 0} (d : X) (p : X → Bool) (xs : List X) (x : X) where
  -- a member after the others changes nothing before it
  pub last_with-before : (n : ℕ) → n ≤ length xs → last_with d p (xs ++ x ∷ []) n ≡ last_with d p xs n
  last_with-before n l =
      last_below-same (λ i. p (get_or (xs ++ x ∷ []) i d)) (λ i. p (get_or xs i d)) n (λ i k. ap p (get_or_append_left xs (x ∷ []) d i (omega (arith, l, k))))

  -- and is found first
  pub last_with-push : last_with d p (xs ++ x ∷ []) (length xs + 1) ≡ cond (p x) (Some (length xs)) (last_with d p xs (length xs))
  last_with-push =
      last_below-more (λ i. p (get_or (xs ++ x ∷ []) i d)) (length xs)
      ∙ ap (λ y. cond (p y) (Some (length xs)) (last_with d p (xs ++ x ∷ []) (length xs))) (get_or_push xs x d (length xs) refl)
      ∙ ap (λ o. cond (p x) (Some (length xs)) o) (last_with-before (length xs) (omega arith))
