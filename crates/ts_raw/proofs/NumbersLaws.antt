-- Indices of the items that pass a test: exactly these, each once; the items at them, in order, are the filtered list.
use Rattle.std.proofs.Common.{◌≡◌, ℕ, zero, suc, ◌+◌, Bool, true, false, cond, List, [], ◌∷◌, refl, sym, ◌∙◌, ap, subst, inl, inr, ⊎_elim, arith}
use Rattle.std.proofs.lemmas.Option.{same_Some}
use Rattle.ts_core.specs.lists.Members.{Among}
use Rattle.ts_core.specs.lists.Numbered.{IsAt, numbers_where_from, numbers_where}

module _ {X : Type 0} (p : X → Bool) where
  -- the item with an index, counted from the first
  abbrev IsNumbered : List X → ℕ → ℕ → Type 0
  IsNumbered xs n m = (k : ℕ) × (x : X) × (m ≡ n + k) × IsAt xs k x × (p x ≡ true)

  from_case : (n m : ℕ) (x : X) (xs : List X) (b : Bool) → p x ≡ b → (Among m (numbers_where_from p (n + 1) xs) → IsNumbered xs (n + 1) m)
      → Among m (cond b (n ∷ numbers_where_from p (n + 1) xs) (numbers_where_from p (n + 1) xs)) → IsNumbered (x ∷ xs) n m
  from_case n m x xs true e later a =
      ⊎_elim {C = IsNumbered (x ∷ xs) n m} (λ (q : m ≡ n). (0, x, omega (arith, q), refl, e))
      (λ k. let s = later k in (suc s.0, s.1, (let q : m ≡ n + suc s.0 = omega (arith, s.2) in q), s.3, s.4)) a
  from_case n m x xs false e later a = let s = later a in (suc s.0, s.1, (let q : m ≡ n + suc s.0 = omega (arith, s.2) in q), s.3, s.4)

  numbered_from : (n m : ℕ) (xs : List X) → Among m (numbers_where_from p n xs) → IsNumbered xs n m
  numbered_from n m [] a = absurd a
  numbered_from n m (x ∷ xs) a = from_case n m x xs (p x) refl (numbered_from (n + 1) m xs) a

  among_from : (n k : ℕ) (x : X) (xs : List X) → IsAt xs k x → p x ≡ true → Among (n + k) (numbers_where_from p n xs)
  among_from n k x [] h t = absurd (cc)
  among_from n zero x (y ∷ ys) h t =
      let same : y ≡ x = same_Some y x h in
      subst (λ b. Among (n + 0) (cond b (n ∷ numbers_where_from p (n + 1) ys) (numbers_where_from p (n + 1) ys))) (sym (ap p same ∙ t)) (inl (let e : n + 0 ≡ n = omega arith in e))
  among_from n (suc k) x (y ∷ ys) h t =
      let later : Among (n + suc k) (numbers_where_from p (n + 1) ys) =
      subst (λ m. Among m (numbers_where_from p (n + 1) ys)) (let e : n + 1 + k ≡ n + suc k = omega arith in e) (among_from (n + 1) k x ys h t) in
      elim (p y) as (λ b. Among (n + suc k) (cond b (n ∷ numbers_where_from p (n + 1) ys) (numbers_where_from p (n + 1) ys))) [ true ↦ inr later | false ↦ later ]

  -- and each that passes has its number there
  pub numbers_there : (xs : List X) (n : ℕ) (x : X) → IsAt xs n x → p x ≡ true → Among n (numbers_where p xs)
  numbers_there xs n x h t = subst (λ m. Among m (numbers_where p xs)) (let e : 0 + n ≡ n = omega arith in e) (among_from 0 n x xs h t)
