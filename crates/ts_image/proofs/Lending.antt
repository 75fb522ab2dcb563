-- Lists of borrowed texts, with one more text.
use Rattle.std.proofs.Common.{◌≡◌, ℕ, zero, suc, add-one, ◌+◌, ◌<◌, ◌≤◌, List, [], ◌∷◌, ◌++◌, length, map, take, get_or, refl, sym, ap, ◌∙◌, arith, Bor}
use Rattle.ts_core.specs.facts.Facts.{Text}
use Rattle.ts_core.specs.text.Texts.{borrowed_pairs}

pub borrowed_length : (xs : List (Bor Text × Bor Text)) → length (borrowed_pairs xs) ≡ length xs
borrowed_length [] = refl
borrowed_length (x ∷ xs) = ap suc (borrowed_length xs)

module _ {P X : Type 0} (f : P → X) where
  step : (ps : List P) (i : ℕ) (p : P) → i < length ps → p ≡ get_or ps i p → map f (take (suc i) ps) ≡ map f (take i ps) ++ f p ∷ []
  step [] i p lt e = absurd (omega arith)
  step (x ∷ xs) zero p lt e = ap (λ (y : P). f y ∷ []) (sym e)
  step (x ∷ xs) (suc i) p lt e = ap (λ (ys : List X). f x ∷ ys) (step xs i p (omega arith) e)

  -- the images of a list's first members, and one more
  pub map_step : (ps : List P) (i : ℕ) (p : P) → i < length ps → p ≡ get_or ps i p → map f (take (i + 1) ps) ≡ map f (take i ps) ++ f p ∷ []
  map_step ps i p lt e = ap (λ (n : ℕ). map f (take n ps)) (add-one i) ∙ step ps i p lt e

  pub map_length : (ps : List P) (i : ℕ) → i ≤ length ps → length (map f (take i ps)) ≡ i
  map_length [] zero le = refl
  map_length [] (suc i) le = absurd (omega arith)
  map_length (x ∷ xs) zero le = refl
  map_length (x ∷ xs) (suc i) le = ap suc (map_length xs i (omega arith))
