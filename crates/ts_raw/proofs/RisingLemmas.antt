-- Strictly increasing numbers, by membership.
use Rattle.std.proofs.Common.{◌≡◌, ℕ, zero, suc, ◌+◌, ◌<◌, Bool, true, false, cond, List, [], ◌∷◌, Some, refl, sym, ◌∙◌, ap, subst, inl, inr, ⊎_elim, arith, add-zero, zero-add}
use Rattle.std.specs.List.{AllPairs, Contains}
use Rattle.std.proofs.lemmas.Option.{get_or_from_slice_get, slice_get-get_or, same_Some}
use Rattle.ts_core.specs.lists.Members.{Among}
use Rattle.ts_core.specs.lists.Numbered.{IsAt, numbers_where_from, numbers_where}
use Rattle.ts_core.proofs.lists.NumberedLemmas.{at_among, among_at, at_within}
use Rattle.ts_raw.specs.Tagged.{IsRisingList}

pub rising_from_pairs : (ns : List ℕ) → AllPairs (λ x y. x < y) ns → IsRisingList ns
rising_from_pairs [] h = tt
rising_from_pairs (n ∷ ns) h = (
  λ k a.
      let s = among_at ns k a in
      subst (λ m. n < m) (get_or_from_slice_get ns s.0 k 0 s.1) (h 0 (suc s.0) 0 (omega arith) (let w = at_within ns s.0 k s.1 in omega (arith, w))),
  rising_from_pairs ns (λ i j d l m. h (suc i) (suc j) d (omega (arith, l)) (omega (arith, m))),
)

-- two such lists with the same members are the same
pub same_rising : (ns ms : List ℕ) → IsRisingList ns → IsRisingList ms → ((k : ℕ) → Among k ns → Among k ms) → ((k : ℕ) → Among k ms → Among k ns) → ns ≡ ms
same_rising [] [] r s f g = refl
same_rising [] (m ∷ ms) r s f g = absurd (g m (inl refl))
same_rising (n ∷ ns) [] r s f g = absurd (f n (inl refl))
same_rising (n ∷ ns) (m ∷ ms) r s f g =
    let e : n ≡ m =
    ⊎_elim {C = n ≡ m} (λ p. p)
    (λ a. ⊎_elim {C = n ≡ m} (λ p. sym p) (λ b. let x : m < n = s.0 n a in let y : n < m = r.0 m b in absurd (omega (arith, x, y))) (g m (inl refl)))
    (f n (inl refl)) in
    let rest : ns ≡ ms =
    same_rising ns ms r.1 s.1
    (λ k a. ⊎_elim {C = Among k ms} (λ (p : k ≡ m). let x : n < k = r.0 k a in absurd (omega (arith, x, p, e))) (λ b. b) (f k (inr a)))
    (λ k a. ⊎_elim {C = Among k ns} (λ (p : k ≡ n). let x : m < k = s.0 k a in absurd (omega (arith, x, p, e))) (λ b. b) (g k (inr a))) in
    λ i. e i ∷ rest i

-- ---- the numbers of those that pass

pub record IsNumbered {X : Type 0} (p : X → Bool) (b : ℕ) (xs : List X) (n : ℕ) : Type 0 where
  pub index : ℕ
  pub member : X
  pub is : n ≡ b + index
  pub at : IsAt xs index member
  pub passes : p member ≡ true

module _ {X : Type 0} (p : X → Bool) where
  numbered_later : (b : ℕ) (x : X) (xs : List X) (n : ℕ) → IsNumbered p (b + 1) xs n → IsNumbered p b (x ∷ xs) n
  numbered_later b x xs n s = record { index = suc s.index; member = s.member; is = let e = s.is in omega (arith, e); at = s.at; passes = s.passes }

  pub numbered_from : (b : ℕ) (xs : List X) (n : ℕ) → Among n (numbers_where_from p b xs) → IsNumbered p b xs n
  numbered_from b [] n h = absurd h
  numbered_from b (x ∷ xs) n h =
      elim (p x) as (λ v. p x ≡ v → Among n (cond v (b ∷ numbers_where_from p (b + 1) xs) (numbers_where_from p (b + 1) xs)) → IsNumbered p b (x ∷ xs) n) [
        | true ↦ λ e a.
            ⊎_elim {C = IsNumbered p b (x ∷ xs) n} (λ (q : n ≡ b). record { index = 0; member = x; is = q ∙ sym (add-zero b); at = refl; passes = e })
            (λ k. numbered_later b x xs n (numbered_from (b + 1) xs n k)) a
        | false ↦ λ e a. numbered_later b x xs n (numbered_from (b + 1) xs n a)
      ] refl h

  either_way : (n b : ℕ) (ns : List ℕ) (v : Bool) → Among n ns → Among n (cond v (b ∷ ns) ns)
  either_way n b ns true a = inr a
  either_way n b ns false a = a

  pub with_starts : (b : ℕ) (xs : List X) (i : ℕ) (x : X) → IsAt xs i x → p x ≡ true → Among (b + i) (numbers_where_from p b xs)
  with_starts b [] i x h t = absurd (cc)
  with_starts b (y ∷ ys) zero x h t =
      subst (λ v. Among (b + 0) (cond v (b ∷ numbers_where_from p (b + 1) ys) (numbers_where_from p (b + 1) ys))) (sym (ap p (same_Some y x h) ∙ t)) (inl (add-zero b))
  with_starts b (y ∷ ys) (suc i) x h t =
      let e : b + 1 + i ≡ b + suc i = omega arith in
      either_way (b + suc i) b (numbers_where_from p (b + 1) ys) (p y) (subst (λ n. Among n (numbers_where_from p (b + 1) ys)) e (with_starts (b + 1) ys i x h t))

  pub numbers_rise : (b : ℕ) (xs : List X) → IsRisingList (numbers_where_from p b xs)
  numbers_rise b [] = tt
  numbers_rise b (x ∷ xs) =
      elim (p x) as (λ v. IsRisingList (cond v (b ∷ numbers_where_from p (b + 1) xs) (numbers_where_from p (b + 1) xs))) [
        | true ↦ (λ k a. let s = numbered_from (b + 1) xs k a in let e = s.is in omega (arith, e), numbers_rise (b + 1) xs)
        | false ↦ numbers_rise (b + 1) xs
      ]

  -- rising numbers, each of one that passes, and of all that do
  pub is_numbers_where : (xs : List X) (ns : List ℕ) → IsRisingList ns → ((n : ℕ) (x : X) → IsAt xs n x → p x ≡ true → Among n ns) → ((n : ℕ) → Among n ns → (x : X) × IsAt xs n x × (p x ≡ true)) → ns ≡ numbers_where p xs
  is_numbers_where xs ns rise complete sound =
      same_rising ns (numbers_where p xs) rise (numbers_rise 0 xs) (λ k a. let s = sound k a in subst (λ n. Among n (numbers_where p xs)) (zero-add k) (with_starts 0 xs k s.0 s.1 s.2))
      (λ k a. let s = numbered_from 0 xs k a in subst (λ n. Among n ns) (let e = s.is in let f : s.index ≡ k = omega (arith, e) in f) (complete s.index s.member s.at s.passes))

-- ---- in std's words

pub among_contains : {X : Type 0} (xs : List X) (x : X) → Among x xs → Contains xs x
among_contains xs x a = let s = among_at xs x a in (s.0, at_within xs s.0 x s.1, get_or_from_slice_get xs s.0 x x s.1)

pub contains_among : {X : Type 0} (xs : List X) (x : X) → Contains xs x → Among x xs
contains_among xs x c = at_among xs c.0 x (slice_get-get_or xs c.0 x c.1 ∙ ap Some c.2)
