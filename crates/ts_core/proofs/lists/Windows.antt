-- Items between two indices of a list sorted by whole numbers, such as times or indices of buckets.
use Rattle.std.proofs.Common.{◌≡◌, ℕ, ℤ, suc, zero, ◌<◌, ◌≤◌, ◌-◌, ◌+◌, Bool, true, false, cond, T, List, [], ◌∷◌, length, take, drop, filter, get_or, refl, sym, ◌∙◌, ap, arith, slice_index_or, int_lt, ⊎_elim, Less}
use Rattle.std.proofs.lemmas.Int.{ints}
use Rattle.std.proofs.lemmas.Bool.{cases_lt}
use Rattle.std.proofs.lemmas.List.{take_rest}
use Rattle.std.specs.Ordering.{int_cmp}
use Rattle.std.specs.Cmp.{int_cmp_total}
use Rattle.std.specs.FinMap.{is_sorted}
use Rattle.std.specs.List.{AllWithin}
use Rattle.std.specs.List.Sorted.{IsPartitionPoint, IsPartitionedBy}
use Rattle.ts_core.specs.facts.Facts.{is_within}
use Rattle.ts_core.proofs.lists.Places.{below_at, both_of}

module _ {X : Type 0} (q : X → Bool) where
  pub none_left : (xs : List X) → AllWithin (λ x. q x ≡ false) xs 0 (length xs) → filter q xs ≡ []
  none_left [] w = refl
  none_left (x ∷ xs) w = ap (λ b. cond b (x ∷ filter q xs) (filter q xs)) (w 0 x (omega arith) (omega arith)) ∙ none_left xs (λ k d l h. w (suc k) d (omega arith) (omega arith))

  nothing : (n i : ℕ) → take n (drop {A = X} i []) ≡ []
  nothing (suc n) zero = refl
  nothing _ i = refl

  -- a filter that passes one stretch of a list takes that stretch
  pub filter-window : (xs : List X) (i n : ℕ)
      → AllWithin (λ x. q x ≡ false) xs 0 i → AllWithin (λ x. q x ≡ true) xs i (i + n) → AllWithin (λ x. q x ≡ false) xs (i + n) (length xs)
      → i + n ≤ length xs → filter q xs ≡ take n (drop i xs)
  filter-window [] i n before in' after h = sym (nothing n i)
  filter-window (x ∷ xs) zero zero before in' after h = none_left (x ∷ xs) (λ k d l m. after k d (omega arith) m)
  filter-window (x ∷ xs) zero (suc n) before in' after h =
      ap (λ b. cond b (x ∷ filter q xs) (filter q xs)) (in' 0 x (omega arith) (omega arith))
      ∙ ap (λ zs. x ∷ zs) (filter-window xs zero n (λ k d l m. absurd (omega arith)) (λ k d l m. in' (suc k) d (omega arith) (omega arith)) (λ k d l m. after (suc k) d (omega arith) (omega arith)) (omega arith))
  filter-window (x ∷ xs) (suc i) n before in' after h =
      ap (λ b. cond b (x ∷ filter q xs) (filter q xs)) (before 0 x (omega arith) (omega arith))
      ∙ filter-window xs i n (λ k d l m. before (suc k) d (omega arith) (omega arith)) (λ k d l m. in' (suc k) d (omega arith) (omega arith)) (λ k d l m. after (suc k) d (omega arith) (omega arith)) (omega arith)

  -- a filter that refuses a front and passes the rest
  pub filter-rest : (xs : List X) (i : ℕ) → AllWithin (λ x. q x ≡ false) xs 0 i → AllWithin (λ x. q x ≡ true) xs i (length xs) → i ≤ length xs → filter q xs ≡ drop i xs
  filter-rest xs i before after h =
      filter-window xs i (length xs - i) before (λ k d l m. after k d l (omega arith)) (λ k d l m. absurd (omega arith)) (omega arith) ∙ take_rest xs i

in_range : (a b t : ℤ) → int_lt t a ≡ false → int_lt t b ≡ true → is_within a b t ≡ true
in_range a b t p r = grind (arith, ints)

too_early : (a b t : ℤ) → int_lt t a ≡ true → is_within a b t ≡ false
too_early a b t p = grind (arith, ints)

too_late : (a b t : ℤ) → int_lt t b ≡ false → is_within a b t ≡ false
too_late a b t p = grind (arith, ints)

before_too : (x y t : ℤ) → int_cmp x y ≡ Less → int_lt y t ≡ true → int_lt x t ≡ true
before_too x y t h e = grind (arith, ints)

module _ {X : Type 0} where
  -- those before a number come first
  pub rising_first : (rows : List (ℤ × X)) → T (is_sorted int_cmp rows) → (t : ℤ) → IsPartitionedBy (λ (r : ℤ × X). int_lt r.0 t) rows
  rising_first (x ∷ xs) s t zero zero d l h e = e
  rising_first (x ∷ xs) s t zero (suc j) d l h e = before_too x.0 (get_or xs j d).0 t (below_at int_cmp_total x.0 xs (both_of _ _ s).0 j d (omega arith)) e
  rising_first (x ∷ xs) s t (suc i) (suc j) d l h e = rising_first xs (both_of _ _ s).1 t i j d (omega arith) (omega arith) e
  rising_first _ s t i j d l h e = absurd (omega arith)

  -- i parts those before t from the others
  abbrev pub IsStartOf : ℤ → List (ℤ × X) → ℕ → Type 0
  IsStartOf t rows i = IsPartitionPoint (λ (r : ℤ × X). int_lt r.0 t ≡ true) (λ (r : ℤ × X). int_lt r.0 t ≡ false) rows i

  pub filter-within : (rows : List (ℤ × X)) (a b : ℤ) (i j : ℕ) → IsStartOf a rows i → IsStartOf b rows j → i ≤ j → j ≤ length rows → take (j - i) (drop i rows) ≡ filter (λ (r : ℤ × X). is_within a b r.0) rows
  filter-within rows a b i j f g l h =
      sym (filter-window (λ (r : ℤ × X). is_within a b r.0) rows i (j - i)
      (λ k d m n. too_early a b (slice_index_or rows k d).0 (f.0 k d m n))
      (λ k d m n. in_range a b (slice_index_or rows k d).0 (f.1 k d m (omega arith)) (g.0 k d (omega arith) (omega arith)))
      (λ k d m n. too_late a b (slice_index_or rows k d).0 (g.1 k d (omega arith) n))
      (omega arith))

  pub filter-nothing_within : (rows : List (ℤ × X)) (a b : ℤ) (i j : ℕ) → IsStartOf a rows i → IsStartOf b rows j → j ≤ i → [] ≡ filter (λ (r : ℤ × X). is_within a b r.0) rows
  filter-nothing_within rows a b i j f g l = sym (none_left (λ (r : ℤ × X). is_within a b r.0) rows (λ k d m n.
      ⊎_elim {C = is_within a b (slice_index_or rows k d).0 ≡ false}
      (λ (before : k < i). too_early a b (slice_index_or rows k d).0 (f.0 k d m before))
      (λ (from : i ≤ k). too_late a b (slice_index_or rows k d).0 (g.1 k d (omega arith) n))
      (cases_lt k i)))
