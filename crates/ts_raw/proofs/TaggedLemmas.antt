-- Columns of series that have a tag: a walk over the series.
use Rattle.std.proofs.Common.{◌≡◌, ℕ, List, [], ◌∷◌, ◌++◌, sym, ◌∙◌, subst, inl, inr, ◌⊎◌, ⊎_elim}
use Rattle.std.proofs.lemmas.Option.{get_or_from_slice_get}
use Rattle.ts_core.specs.lists.Members.{Among, AllDistinct}
use Rattle.ts_core.specs.facts.Facts.{Text, Series}
use Rattle.ts_core.specs.lists.Numbered.{IsAt}
use Rattle.ts_core.proofs.lists.MembersLemmas.{Among-append}
use Rattle.ts_core.proofs.lists.NumberedLemmas.{at_within, same_place}
use Rattle.ts_raw.specs.Tagged.{IsTaggedAt}
use Rattle.ts_raw.proofs.TagLemmas.{among_end, among_before}

-- one index is of the numbers
pub one_index : {X : Type 0} (xs : List X) (x : X) (i j : ℕ) → AllDistinct xs → IsAt xs i x → IsAt xs j x → i ≡ j
one_index xs x i j once h k =
    same_place xs x i j once (at_within xs i x h) (at_within xs j x k) (get_or_from_slice_get xs i x x h ∙ sym (get_or_from_slice_get xs j x x k))

module _ (series : List Series) (columns : List (ℕ × ℕ)) (field : ℕ) (tag value : Text) (numbers : List ℕ) where
  pub record IsTaggedSoFar (found left : List ℕ) : Type 0 where
    pub sound : (n : ℕ) → Among n found → (k : ℕ) × Among k numbers × IsTaggedAt series columns field tag value k n
    pub complete : (k n : ℕ) → Among k numbers → IsTaggedAt series columns field tag value k n → Among n found ⊎ Among k left

  pub tagged_none : (found left : List ℕ) (k : ℕ) → IsTaggedSoFar found (k ∷ left) → ((n : ℕ) → IsTaggedAt series columns field tag value k n → ⊥) → IsTaggedSoFar found left
  tagged_none found left k s none = record {
    sound = s.sound;
    complete = λ j n a t.
        ⊎_elim {C = Among n found ⊎ Among j left} (λ h. inl h)
        (λ b. ⊎_elim {C = Among n found ⊎ Among j left} (λ (e : j ≡ k). absurd (none n (subst (λ i. IsTaggedAt series columns field tag value i n) e t))) (λ h. inr h) b)
        (s.complete j n a t);
  }

  pub tagged_some : (found left : List ℕ) (k m : ℕ) → AllDistinct columns → IsTaggedSoFar found (k ∷ left) → Among k numbers → IsTaggedAt series columns field tag value k m → IsTaggedSoFar (found ++ m ∷ []) left
  tagged_some found left k m once s there is = record {
    sound = λ n a.
        ⊎_elim {C = (j : ℕ) × Among j numbers × IsTaggedAt series columns field tag value j n} (λ h. s.sound n h)
        (λ b. ⊎_elim {C = (j : ℕ) × Among j numbers × IsTaggedAt series columns field tag value j n} (λ (e : n ≡ m). (k, there, subst (λ i. IsTaggedAt series columns field tag value k i) (sym e) is)) (λ e. absurd e) b)
        (Among-append n found (m ∷ []) a);
    complete = λ j n a t.
        ⊎_elim {C = Among n (found ++ m ∷ []) ⊎ Among j left} (λ h. inl (among_before found (m ∷ []) n h))
        (λ b. ⊎_elim {C = Among n (found ++ m ∷ []) ⊎ Among j left}
        (λ (e : j ≡ k).
        let same : m ≡ n = one_index columns (k, field) m n once is.at (subst (λ i. IsAt columns n (i, field)) e t.at) in
        inl (subst (λ i. Among i (found ++ m ∷ [])) same (among_end found m)))
        (λ h. inr h) b)
        (s.complete j n a t);
  }
