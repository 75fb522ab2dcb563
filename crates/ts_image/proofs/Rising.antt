-- Ascending lists: the items before one of them.
use Rattle.std.proofs.Common.{◌≡◌, ℕ, zero, suc, ◌<◌, List, [], ◌∷◌, ◌++◌, length, map, take, get_or, refl, ap, subst, inl, inr, arith}
use Rattle.std.specs.declared.cmp.Ordering.{Ordering}
use Rattle.std.specs.Cmp.{IsTotalOrder}
use Rattle.std.specs.List.{AllByRecursion}
use Rattle.ts_core.specs.lists.Members.{Among}
use Rattle.ts_store.specs.image.SavedContent.{AreRising}
use Rattle.ts_image.proofs.Orders.{rising_distinct, rising_rest}

-- a property of all members is one of a member in the middle
pub all_mid : {P X : Type 0} (Q : X → Type 0) (v : P → X) (xs : List P) (p : P) (ys : List P) → AllByRecursion Q (map v (xs ++ p ∷ ys)) → Q (v p)
all_mid Q v [] p ys h = h.0
all_mid Q v (x ∷ xs) p ys h = all_mid Q v xs p ys h.1

among_mid : {P X : Type 0} (v : P → X) (xs : List P) (p : P) (ys : List P) → Among (v p) (map v (xs ++ p ∷ ys))
among_mid v [] p ys = inl refl
among_mid v (x ∷ xs) p ys = inr (among_mid v xs p ys)

among_at : {P X : Type 0} (v : P → X) (ps : List P) (i : ℕ) (p : P) → i < length ps → p ≡ get_or ps i p → Among (v p) (map v ps)
among_at v [] i p lt e = absurd (omega arith)
among_at v (x ∷ xs) zero p lt e = inl (ap v e)
among_at v (x ∷ xs) (suc i) p lt e = inr (among_at v xs i p (omega arith) e)

module _ {K : Type 0} {R : K → K → Ordering} (o : IsTotalOrder R) where
  -- a member isn't among those before it
  pub rising_mid : {P : Type 0} (v : P → K) (xs : List P) (p : P) (ys : List P) → AreRising R (map v (xs ++ p ∷ ys)) → Among (v p) (map v xs) → ⊥
  rising_mid v [] p ys h a = a
  rising_mid v (x ∷ xs) p ys h (inl e) = (rising_distinct o (map v (x ∷ xs ++ p ∷ ys)) h).0 (subst (λ (k : K). Among k (map v (xs ++ p ∷ ys))) e (among_mid v xs p ys))
  rising_mid v (x ∷ xs) p ys h (inr a) = rising_mid v xs p ys (rising_rest R (v x) (map v (xs ++ p ∷ ys)) h) a

  pub rising_absent : {P : Type 0} (v : P → K) (ps : List P) (i : ℕ) (p : P) → i < length ps → p ≡ get_or ps i p → AreRising R (map v ps) → Among (v p) (map v (take i ps)) → ⊥
  rising_absent v [] i p lt e h a = absurd (omega arith)
  rising_absent v (x ∷ xs) zero p lt e h a = a
  rising_absent v (x ∷ xs) (suc i) p lt e h (inl q) = (rising_distinct o (map v (x ∷ xs)) h).0 (subst (λ (k : K). Among k (map v xs)) q (among_at v xs i p (omega arith) e))
  rising_absent v (x ∷ xs) (suc i) p lt e h (inr a) = rising_absent v xs i p (omega arith) e (rising_rest R (v x) (map v xs) h) a
