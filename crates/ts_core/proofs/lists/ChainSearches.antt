-- Search along the chain of a hash, from the newest index to the oldest.
use Rattle.std.proofs.Common.{◌≡◌, ℕ, ◌+◌, ◌<◌, ◌≤◌, false, nat_eq, List, length, get_or, Option, Some, None, refl, sym, ◌∙◌, ap, subst, ⊎_elim, arith, true≢false, eq-eqb, eqb-true}
use Rattle.std.proofs.lemmas.Bool.{cases_lt, cases_order}
use Rattle.std.proofs.lemmas.Option.{slice_get-get_or, get_or_from_slice_get}
use Rattle.ts_core.specs.lists.LastBelow.{newest_of}
use Rattle.ts_core.specs.lists.Numbered.{IsAt}
use Rattle.ts_core.proofs.lists.LastBelows.{last_below-some, last_below-none, last_below-gap}

-- those with the hash from some index on are rejected, and the next index is the newest before that
pub record IsSearched (hashes : List ℕ) (hash : ℕ) (IsRejected : ℕ → Type 0) (next : Option ℕ) : Type 0 where
  pub below : ℕ
  pub within : below ≤ length hashes
  pub next_is : next ≡ newest_of hashes hash below
  pub rejected : (i : ℕ) → below ≤ i → IsAt hashes i hash → IsRejected i

-- an upper bound on the indices that a search still visits
abbrev pub places_left : Option ℕ → ℕ
places_left None = 0
places_left (Some n) = n + 1

module _ (hashes : List ℕ) (hash : ℕ) where
  newest_within : (n i : ℕ) → newest_of hashes hash n ≡ Some i → (i < n) × (get_or hashes i 0 ≡ hash)
  newest_within n i e =
      let s = last_below-some (λ j. nat_eq (get_or hashes j 0) hash) n i e in (s.0, eqb-true (get_or hashes i 0) hash s.1)

  other_hash : (i : ℕ) → nat_eq (get_or hashes i 0) hash ≡ false → get_or hashes i 0 ≡ hash → ⊥
  other_hash i apart e = true≢false (sym (eq-eqb (get_or hashes i 0) hash e) ∙ apart)

  module _ (IsRejected : ℕ → Type 0) where
    -- the next index has the hash
    pub search_at : (i : ℕ) → IsSearched hashes hash IsRejected (Some i) → IsAt hashes i hash
    search_at i s =
        let at = newest_within s.below i (sym s.next_is) in
        slice_get-get_or hashes i 0 (omega (arith, at.0, s.within)) ∙ ap Some at.1

    -- those with the hash after the next index were rejected
    pub search_newer : (i : ℕ) → IsSearched hashes hash IsRejected (Some i) → (j : ℕ) → i < j → IsAt hashes j hash → IsRejected j
    search_newer i s j later h =
        ⊎_elim {C = IsRejected j}
        (λ (before : j < s.below).
        absurd (other_hash j (last_below-gap (λ m. nat_eq (get_or hashes m 0) hash) s.below i (sym s.next_is) j later before) (get_or_from_slice_get hashes j hash 0 h)))
        (λ (seen : s.below ≤ j). s.rejected j seen h) (cases_lt j s.below)

    pub search_goes_on : (i : ℕ) → IsSearched hashes hash IsRejected (Some i) → IsRejected i → IsSearched hashes hash IsRejected (newest_of hashes (get_or hashes i 0) i)
    search_goes_on i s not_it =
        let at = newest_within s.below i (sym s.next_is) in
        record {
          below = i;
          within = omega (arith, at.0, s.within);
          next_is = ap (λ h. newest_of hashes h i) at.1;
          rejected = λ j l h.
              ⊎_elim {C = IsRejected j} (λ (same : i ≡ j). subst IsRejected same not_it)
              (λ o. ⊎_elim {C = IsRejected j}
              (λ (later : i < j). search_newer i s j later h)
              (λ (before : j < i). absurd (omega arith)) o)
              (cases_order i j);
        }

    pub search_ends : IsSearched hashes hash IsRejected None → (i : ℕ) → IsAt hashes i hash → IsRejected i
    search_ends s i h =
        ⊎_elim {C = IsRejected i}
        (λ (before : i < s.below). absurd (other_hash i (last_below-none (λ m. nat_eq (get_or hashes m 0) hash) s.below (sym s.next_is) i before) (get_or_from_slice_get hashes i hash 0 h)))
        (λ (seen : s.below ≤ i). s.rejected i seen h) (cases_lt i s.below)

  -- the next index is nearer to the oldest
  pub places_fall : (i : ℕ) → places_left (newest_of hashes hash i) < i + 1
  places_fall i = fall (newest_of hashes hash i) refl
    where
      fall : (o : Option ℕ) → newest_of hashes hash i ≡ o → places_left o < i + 1
      fall None e = omega arith
      fall (Some j) e = let at = newest_within i j e in omega (arith, at.0)
