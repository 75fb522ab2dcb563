-- Folds of lists: by parts, and independent of the order.
use Rattle.std.proofs.Common.{◌≡◌, ℕ, ◌+◌, ℤ, Bool, true, false, cond, not, List, [], ◌∷◌, ◌++◌, length, filter, refl, sym, ◌∙◌, ap, inl, inr, subst, ⊎_elim, arith, one-add, zero-add, add_comm, add_assoc, get_or, take, ◌<◌, ◌≤◌, length-take}
use Rattle.std.proofs.lemmas.List.{take_more}
use Rattle.ts_core.specs.lists.Members.{Among, AllDistinct}
use Rattle.ts_core.specs.aggregates.Partials.{PartialLaws, fold_by}
use Rattle.ts_core.proofs.lists.MembersLemmas.{Split, split_at, distinct_without, out_of_middle, into_middle}

module _ {M : Type 0} {empty : M} {single : ℤ → ℤ → M} {merge : M → M → M} {count : M → ℕ} (laws : PartialLaws empty single merge count) {X : Type 0} (one : X → M) where
  abbrev sum_of : List X → M
  sum_of xs = fold_by empty merge one xs

  -- the first item may be merged second
  pub merge-left_comm : (x y z : M) → merge x (merge y z) ≡ merge y (merge x z)
  merge-left_comm x y z = sym (laws.assoc x y z) ∙ ap (λ a. merge a z) (laws.comm x y) ∙ laws.assoc y x z

  pub fold-append : (xs ys : List X) → sum_of (xs ++ ys) ≡ merge (sum_of xs) (sum_of ys)
  fold-append [] ys = sym (laws.unit (sum_of ys))
  fold-append (x ∷ xs) ys = ap (merge (one x)) (fold-append xs ys) ∙ sym (laws.assoc (one x) (sum_of xs) (sum_of ys))

  pub fold-push : (xs : List X) (x : X) → sum_of (xs ++ x ∷ []) ≡ merge (sum_of xs) (one x)
  fold-push xs x = fold-append xs (x ∷ []) ∙ ap (merge (sum_of xs)) (laws.comm (one x) empty ∙ laws.unit (one x))

  pub fold-middle : (us : List X) (x : X) (vs : List X) → sum_of (us ++ x ∷ vs) ≡ merge (one x) (sum_of (us ++ vs))
  fold-middle [] x vs = refl
  fold-middle (u ∷ us) x vs = ap (merge (one u)) (fold-middle us x vs) ∙ merge-left_comm (one u) (one x) (sum_of (us ++ vs))

  -- a list in two parts, by any test
  pub fold-split : (p : X → Bool) (xs : List X) → sum_of xs ≡ merge (sum_of (filter p xs)) (sum_of (filter (λ x. not (p x)) xs))
  fold-split p [] = sym (laws.unit empty)
  fold-split p (x ∷ xs) =
      let ih = fold-split p xs in
      elim (p x) as (λ b. sum_of (x ∷ xs) ≡ merge (sum_of (cond b (x ∷ filter p xs) (filter p xs))) (sum_of (cond (not b) (x ∷ filter (λ y. not (p y)) xs) (filter (λ y. not (p y)) xs)))) [
        | true ↦ ap (merge (one x)) ih ∙ sym (laws.assoc (one x) _ _)
        | false ↦ ap (merge (one x)) ih ∙ merge-left_comm (one x) _ _
      ]

  pub fold-count : ((x : X) → count (one x) ≡ 1) → (xs : List X) → count (sum_of xs) ≡ length xs
  fold-count h [] = laws.count_empty
  fold-count h (x ∷ xs) = laws.count_merge (one x) (sum_of xs) ∙ ap (λ n. n + count (sum_of xs)) (h x) ∙ ap (λ n. 1 + n) (fold-count h xs) ∙ one-add (length xs)

  -- a loop's step: one more of the list
  pub fold-take_more : (xs : List X) (i : ℕ) (x : X) → i < length xs → x ≡ get_or xs i x → merge (sum_of (take i xs)) (one x) ≡ sum_of (take (i + 1) xs)
  fold-take_more xs i x within read =
      let e : take (i + 1) xs ≡ take i xs ++ (x ∷ []) = take_more xs i x within ∙ ap (λ y. take i xs ++ (y ∷ [])) (sym read) in
      sym (ap sum_of e ∙ fold-push (take i xs) x)

  -- and its count, which leaves room for one more
  pub fold-take_room : ((x : X) → count (one x) ≡ 1) → (xs : List X) (i m : ℕ) (x : X) → i < length xs → length xs ≤ m → count (sum_of (take i xs)) + count (one x) ≤ m
  fold-take_room h xs i m x within few =
      let e : count (sum_of (take i xs)) ≡ length (take i xs) = fold-count h (take i xs) in
      let f : count (one x) ≡ 1 = h x in
      let t : length (take i xs) ≤ i = simp length-take (omega arith) in
      omega arith

  -- distinct lists with the same members have one fold
  pub fold-same : (xs ys : List X) → AllDistinct xs → AllDistinct ys → ((z : X) → Among z xs → Among z ys) → ((z : X) → Among z ys → Among z xs) → sum_of xs ≡ sum_of ys
  unfolding Split
  fold-same [] [] a b f g = refl
  fold-same [] (y ∷ ys) a b f g = absurd (g y (inl refl))
  fold-same (x ∷ xs) ys a b f g =
      let s = split_at x ys (f x (inl refl)) in
      let us : List X = s.0 in
      let vs : List X = s.1.0 in
      let e : ys ≡ us ++ x ∷ vs = s.1.1 in
      let left = distinct_without x us vs (subst AllDistinct e b) in
      let to : (z : X) → Among z xs → Among z (us ++ vs) = λ z h.
      ⊎_elim {C = Among z (us ++ vs)} (λ q. absurd (a.0 (subst (λ w. Among w xs) q h))) (λ k. k)
      (out_of_middle z x us vs (subst (Among z) e (f z (inr h)))) in
      let from : (z : X) → Among z (us ++ vs) → Among z xs = λ z h.
      ⊎_elim {C = Among z xs} (λ q. absurd (left.1 (subst (λ w. Among w (us ++ vs)) q h))) (λ k. k)
      (g z (subst (Among z) (sym e) (into_middle z x us vs h))) in
      ap (merge (one x)) (fold-same xs (us ++ vs) a.1 left.0 to from) ∙ sym (fold-middle us x vs) ∙ ap sum_of (sym e)

-- ---- the count alone

pub count_laws : PartialLaws 0 (λ t v. 1) (λ m n. m + n) (λ n. n)
count_laws = record {
  unit = zero-add;
  comm = add_comm;
  assoc = add_assoc;
  count_empty = refl;
  count_single = λ t v. refl;
  count_merge = λ x y. refl;
}

-- distinct lists with the same members are of one length
pub length-same : {X : Type 0} (xs ys : List X) → AllDistinct xs → AllDistinct ys → ((z : X) → Among z xs → Among z ys) → ((z : X) → Among z ys → Among z xs) → length xs ≡ length ys
length-same xs ys a b f g =
    sym (fold-count count_laws (λ x. 1) (λ x. refl) xs) ∙ fold-same count_laws (λ x. 1) xs ys a b f g ∙ fold-count count_laws (λ x. 1) (λ x. refl) ys
