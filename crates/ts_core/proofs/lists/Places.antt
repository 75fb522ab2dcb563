-- Entries in the order of their keys: the result of a binary search, and an edit at that index.
use Rattle.std.proofs.Common.{◌≡◌, ℕ, zero, suc, ◌<◌, ◌≤◌, Bool, true, cond, ◌&&◌, T, List, [], ◌∷◌, length, get_or, set, insert, refl, sym, ◌∙◌, ap, Some, Ordering, Less, Equal, Greater, is_lt, is_eq, arith}
use Rattle.std.specs.Ordering.{ordering_index, ordering_reverse}
use Rattle.std.specs.Cmp.{IsTotalOrder}
use Rattle.std.specs.FinMap.{find, put, is_sorted}
use Rattle.std.specs.FinMap.Entries.{below_all, by_order}
use Rattle.std.specs.List.Sorted.{IsNonDecreasingBy, IsPartitionPoint}
use Rattle.std.proofs.lemmas.Cmp.{alike_right}

pub both_of : (a b : Bool) → T (a && b) → T a × T b
both_of true true h = (tt, tt)
both_of _ b h = absurd h

pub less_of : (o : Ordering) → T (is_lt o) → o ≡ Less
less_of Less h = refl
less_of _ h = absurd h

module _ {K : Type 0} {R : K → K → Ordering} (o : IsTotalOrder R) where
  flipped : (x y : K) (a : Ordering) → R x y ≡ a → R y x ≡ ordering_reverse a
  flipped x y a e = o.antisymm y x ∙ ap ordering_reverse e

  -- an earlier key compares no higher
  lower_index : (x y k : K) → R x y ≡ Less → ordering_index (R x k) ≤ ordering_index (R y k)
  lower_index x y k l =
      elim (R y k) as (λ r. R y k ≡ r → ordering_index (R x k) ≤ ordering_index r) [
        | Less ↦ λ e. rw (o.trans x y k l e) (omega arith)
        | Equal ↦ λ e. rw (sym (alike_right o y k x e) ∙ l) (omega arith)
        | Greater ↦ λ e. elim (R x k) as (λ r. ordering_index r ≤ 2) [ Less ↦ omega arith | Equal ↦ omega arith | Greater ↦ omega arith ]
      ] refl

module _ {K X : Type 0} {R : K → K → Ordering} (o : IsTotalOrder R) where
  pub below_at : (x : K) (es : List (K × X)) → T (below_all R x es) → (j : ℕ) (d : K × X) → j < length es → R x (get_or es j d).0 ≡ Less
  below_at x [] h j d l = absurd (omega arith)
  below_at x (e ∷ es) h zero d l = less_of _ (both_of _ _ h).0
  below_at x (e ∷ es) h (suc j) d l = below_at x es (both_of _ _ h).1 j d (omega arith)

  -- the comparisons with a key rise, as a binary search asks
  pub rises : (es : List (K × X)) → T (is_sorted R es) → (k : K) → IsNonDecreasingBy (λ (e : K × X). ordering_index (R e.0 k)) es
  rises (e ∷ es) s k zero zero d l h = omega arith
  rises (e ∷ es) s k zero (suc j) d l h = lower_index o e.0 (get_or es j d).0 k (below_at e.0 es (both_of _ _ s).0 j d (omega arith))
  rises (e ∷ es) s k (suc i) (suc j) d l h = rises es (both_of _ _ s).1 k i j d (omega arith) (omega arith)
  rises _ s k i j d l h = absurd (omega arith)

  -- the entry at i has the key: it is found, and a write there puts it
  pub found_at : (es : List (K × X)) → T (is_sorted R es) → (k : K) (i : ℕ) (d : K × X) → i < length es → R (get_or es i d).0 k ≡ Equal → find R k es ≡ Some (get_or es i d).1
  found_at [] s k i d l e = absurd (omega arith)
  found_at (x ∷ es) s k zero d l e = ap (λ r. cond (is_eq r) (Some x.1) (find R k es)) (flipped o x.0 k Equal e)
  found_at (x ∷ es) s k (suc i) d l e =
      let lt : R x.0 (get_or es i d).0 ≡ Less = below_at x.0 es (both_of _ _ s).0 i d (omega arith) in
      let before : R x.0 k ≡ Less = sym (alike_right o (get_or es i d).0 k x.0 e) ∙ lt in
      ap (λ r. cond (is_eq r) (Some x.1) (find R k es)) (flipped o x.0 k Less before) ∙ found_at es (both_of _ _ s).1 k i d (omega arith) e

  pub put_at : (es : List (K × X)) → T (is_sorted R es) → (k : K) (v : X) (i : ℕ) (d : K × X) → i < length es → R (get_or es i d).0 k ≡ Equal → put R k v es ≡ set es i ((get_or es i d).0, v)
  put_at [] s k v i d l e = absurd (omega arith)
  put_at (x ∷ es) s k v zero d l e = ap (λ r. by_order r ((k, v) ∷ x ∷ es) ((x.0, v) ∷ es) (x ∷ put R k v es)) (flipped o x.0 k Equal e)
  put_at (x ∷ es) s k v (suc i) d l e =
      let lt : R x.0 (get_or es i d).0 ≡ Less = below_at x.0 es (both_of _ _ s).0 i d (omega arith) in
      let before : R x.0 k ≡ Less = sym (alike_right o (get_or es i d).0 k x.0 e) ∙ lt in
      ap (λ r. by_order r ((k, v) ∷ x ∷ es) ((x.0, v) ∷ es) (x ∷ put R k v es)) (flipped o x.0 k Less before)
      ∙ ap (λ zs. x ∷ zs) (put_at es (both_of _ _ s).1 k v i d (omega arith) e)

  pub put_between : (es : List (K × X)) (k : K) (v : X) (i : ℕ) → i ≤ length es → IsPartitionPoint (λ (e : K × X). R e.0 k ≡ Less) (λ (e : K × X). R e.0 k ≡ Greater) es i → put R k v es ≡ insert es i (k, v)
  put_between [] k v zero l p = refl
  put_between [] k v (suc i) l p = absurd (omega arith)
  put_between (x ∷ es) k v zero l p = ap (λ r. by_order r ((k, v) ∷ x ∷ es) ((x.0, v) ∷ es) (x ∷ put R k v es)) (flipped o x.0 k Greater (p.1 0 x (omega arith) (omega arith)))
  put_between (x ∷ es) k v (suc i) l p =
      ap (λ r. by_order r ((k, v) ∷ x ∷ es) ((x.0, v) ∷ es) (x ∷ put R k v es)) (flipped o x.0 k Less (p.0 0 x (omega arith) (omega arith)))
      ∙ ap (λ zs. x ∷ zs) (put_between es k v i (omega arith) (λ j d a b. p.0 (suc j) d (omega arith) (omega arith), λ j d a b. p.1 (suc j) d (omega arith) (omega arith)))
