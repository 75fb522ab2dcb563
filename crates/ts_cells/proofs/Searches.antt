-- The result of a search in entries that are in order.
use Rattle.std.proofs.Common.{◌≡◌, ℕ, zero, suc, ◌<◌, ◌≤◌, cond, T, List, [], ◌∷◌, length, get_or, ap, ◌∙◌, refl, Some, None, Result, Ok, Err, MatchResult, HoldsAt, is_eq, arith, Ordering, Less, Equal, Greater}
use Rattle.std.specs.Ordering.{ordering_index, ordering_reverse}
use Rattle.std.specs.FinMap.Entries.{below_all}
use Rattle.ts_core.proofs.lists.Places.{both_of, less_of}
use Rattle.std.specs.Cmp.{IsTotalOrder}
use Rattle.std.specs.FinMap.{find}
use Rattle.std.specs.List.Sorted.{IsPartitionPoint, IsBinarySearchResult, IsNonDecreasingBy}

-- an index, or one between those before and those after
pub slot_found : {X : Type 0} (ord : X → Ordering) (xs : List X) (r : Result ℕ ℕ) → IsNonDecreasingBy (λ y. ordering_index (ord y)) xs → IsBinarySearchResult ord xs r
    → MatchResult r (HoldsAt (λ y. ord y ≡ Equal) xs) (IsPartitionPoint (λ y. ord y ≡ Less) (λ y. ord y ≡ Greater) xs)
slot_found ord xs (Ok i) up h = h
slot_found ord xs (Err i) up h = h up

-- nothing below all entries is found
pub find_below : {K X : Type 0} (R : K → K → Ordering) (k : K) (es : List (K × X)) → T (below_all R k es) → find R k es ≡ None
find_below R k [] h = refl
find_below R k (e ∷ es) h = let p = both_of _ _ h in ap (λ o. cond (is_eq o) (Some e.1) (find R k es)) (less_of _ p.0) ∙ find_below R k es p.1

module _ {K X : Type 0} {R : K → K → Ordering} (o : IsTotalOrder R) where
  none_after : (es : List (K × X)) (k : K) → ((j : ℕ) (d : K × X) → j < length es → R (get_or es j d).0 k ≡ Greater) → find R k es ≡ None
  none_after [] k h = refl
  none_after (e ∷ es) k h =
      ap (λ r. cond (is_eq r) (Some e.1) (find R k es)) (o.antisymm k e.0 ∙ ap ordering_reverse (h 0 e (omega arith)))
      ∙ none_after es k (λ j d l. h (suc j) d (omega arith))

  -- nothing is found where it would be between others
  pub missing : (es : List (K × X)) (k : K) (at : ℕ) → at ≤ length es → IsPartitionPoint (λ (e : K × X). R e.0 k ≡ Less) (λ (e : K × X). R e.0 k ≡ Greater) es at → find R k es ≡ None
  missing es k zero h p = none_after es k (λ j d l. p.1 j d (omega arith) l)
  missing [] k (suc at) h p = refl
  missing (e ∷ es) k (suc at) h p =
      ap (λ r. cond (is_eq r) (Some e.1) (find R k es)) (o.antisymm k e.0 ∙ ap ordering_reverse (p.0 0 e (omega arith) (omega arith)))
      ∙ missing es k at (omega arith) (λ j d a b. p.0 (suc j) d (omega arith) (omega arith), λ j d a b. p.1 (suc j) d (omega arith) (omega arith))
