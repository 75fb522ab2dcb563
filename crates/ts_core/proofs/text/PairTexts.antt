-- Pairs of texts, with one more at the end.
use Rattle.std.proofs.Common.{◌≡◌, ℕ, ◌<◌, ◌+◌, List, [], ◌∷◌, ◌++◌, length, get_or, take, refl, sym, ◌∙◌, ap, String, string_bytes, Bor}
use Rattle.std.proofs.lemmas.List.{take_more}
use Rattle.ts_core.specs.facts.Facts.{Text}
use Rattle.ts_core.specs.text.Texts.{owned_pairs, borrowed_pairs}

owned_push : {A : Type 0} (xs : List (String A × String A)) (t : String A × String A) → owned_pairs (xs ++ t ∷ []) ≡ owned_pairs xs ++ (string_bytes t.0, string_bytes t.1) ∷ []
owned_push [] t = refl
owned_push (x ∷ xs) t = ap (λ zs. (string_bytes x.0, string_bytes x.1) ∷ zs) (owned_push xs t)

pub borrowed_push : (xs : List (Bor Text × Bor Text)) (t : Bor Text × Bor Text) → borrowed_pairs (xs ++ t ∷ []) ≡ borrowed_pairs xs ++ (t.0.now, t.1.now) ∷ []
borrowed_push [] t = refl
borrowed_push (x ∷ xs) t = ap (λ zs. (x.0.now, x.1.now) ∷ zs) (borrowed_push xs t)

-- one more pair is owned
pub owned_more : {A : Type 0} (xs : List (String A × String A)) (t : String A × String A) (ts : List (Bor Text × Bor Text)) (i : ℕ) (d : Bor Text × Bor Text) → i < length ts
    → string_bytes t.0 ≡ (get_or ts i d).0.now → string_bytes t.1 ≡ (get_or ts i d).1.now
    → owned_pairs xs ≡ borrowed_pairs (take i ts) → owned_pairs (xs ++ t ∷ []) ≡ borrowed_pairs (take (i + 1) ts)
owned_more xs t ts i d l e f ih =
    owned_push xs t ∙ ap (λ zs. zs ++ (string_bytes t.0, string_bytes t.1) ∷ []) ih ∙ ap (λ k. borrowed_pairs (take i ts) ++ (k, string_bytes t.1) ∷ []) e
    ∙ ap (λ v. borrowed_pairs (take i ts) ++ ((get_or ts i d).0.now, v) ∷ []) f ∙ sym (ap borrowed_pairs (take_more ts i d l) ∙ borrowed_push (take i ts) (get_or ts i d))
