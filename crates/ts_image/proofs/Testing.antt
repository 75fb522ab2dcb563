-- Tests of each member of a list, as loops do them, and of each with the next.
use Rattle.std.proofs.Common.{◌≡◌, ℕ, zero, suc, add-one, ◌+◌, ◌<◌, ◌≤◌, true, false, true≢false, List, [], ◌∷◌, ◌++◌, length, map, filter, Bool, cond, take, get_or, refl, sym, ap, subst, ◌∙◌, arith, Bor}
use Rattle.std.specs.Ordering.{is_lt}
use Rattle.std.specs.Prelude.{◌↔◌, Option, Some, None, is_some, IsTrue}
use Rattle.std.specs.declared.cmp.Ordering.{Ordering}
use Rattle.std.specs.Fn.{Mut, Called, ComputesOnPairs}
use Rattle.std.specs.List.{AllByRecursion, IsAllAdjacentAnswer, sum_by}
use Rattle.std.proofs.lemmas.List.Sorted.{answers_always}
use Rattle.std.proofs.lemmas.List.Sums.{sum_by-cons, sum_by-take-le}
use Rattle.std.proofs.lemmas.List.{take-map}
use Rattle.std.proofs.lemmas.List.{take_all}
use Rattle.ts_core.specs.facts.Facts.{Text, same_text}
use Rattle.ts_raw.proofs.TagLemmas.{same_member}
use Rattle.ts_image.specs.Images.{ImageSeries}
use Rattle.ts_image.specs.TestParts.{points_if, IsSubtracted}
use Rattle.ts_image.specs.ImageTests.{points_of_series, points_of_measurement}
use Rattle.ts_store.specs.image.SavedContent.{AreRising}

pub there : {P : Type 0} (ps : List P) (i : ℕ) (d : P) → i < length ps → get_or ps i d ≡ get_or ps i (get_or ps i d)
there ps i d lt = same_member ps i d (get_or ps i d) lt

module _ {P X : Type 0} (Q : X → Type 0) (v : P → X) where
  pub all_more : (ps : List P) (i : ℕ) (p : P) → i < length ps → p ≡ get_or ps i p → AllByRecursion Q (map v (take i ps)) → Q (v p) → AllByRecursion Q (map v (take (suc i) ps))
  all_more [] i p lt e h q = absurd (omega arith)
  all_more (x ∷ xs) zero p lt e h q = (subst (λ (y : P). Q (v y)) e q, tt)
  all_more (x ∷ xs) (suc i) p lt e h q = (h.0, all_more xs i p (omega arith) e h.1 q)

  pub all_not : (ps : List P) (i : ℕ) (p : P) → i < length ps → p ≡ get_or ps i p → (Q (v p) → ⊥) → AllByRecursion Q (map v ps) → ⊥
  all_not [] i p lt e never h = absurd (omega arith)
  all_not (x ∷ xs) zero p lt e never h = never (subst (λ (y : P). Q (v y)) (sym e) h.0)
  all_not (x ∷ xs) (suc i) p lt e never h = all_not xs i p (omega arith) e never h.1

  pub all_done : (ps : List P) (i : ℕ) → length ps ≤ i → AllByRecursion Q (map v (take i ps)) → AllByRecursion Q (map v ps)
  all_done [] i le h = tt
  all_done (x ∷ xs) zero le h = absurd (omega arith)
  all_done (x ∷ xs) (suc i) le h = (h.0, all_done xs i (omega arith) h.1)

  pub all_next : (ps : List P) (i : ℕ) (p : P) → i < length ps → p ≡ get_or ps i p → AllByRecursion Q (map v (take i ps)) → Q (v p) → AllByRecursion Q (map v (take (i + 1) ps))
  all_next ps i p lt e h q = subst (λ (n : ℕ). AllByRecursion Q (map v (take n ps))) (sym (add-one i)) (all_more ps i p lt e h q)

module _ {P X : Type 0} (cmp : X → X → Ordering) (v : P → X) where
  abbrev is_before : P → P → Bool
  is_before x y = is_lt (cmp (v x) (v y))

  -- the test of the items at k and n has this result
  abbrev Tested : List P → ℕ → ℕ → Bool → P → Type 0
  Tested ps k n b d = b ≡ is_before (get_or ps k d) (get_or ps n d)

  rising_each : (ps : List P) → ((k : ℕ) (d : P) → suc k < length ps → Tested ps k (suc k) true d) → AreRising cmp (map v ps)
  rising_each [] h = tt
  rising_each (x ∷ []) h = tt
  rising_each (x ∷ y ∷ zs) h = (sym (h 0 x (omega arith)), rising_each (y ∷ zs) (λ k d lt. h (suc k) d (omega (arith, lt))))

  never_rising : (ps : List P) (k : ℕ) → suc k < length ps → ((d : P) → Tested ps k (suc k) false d) → AreRising cmp (map v ps) → ⊥
  never_rising [] k lt n h = absurd (omega arith)
  never_rising (x ∷ []) k lt n h = absurd (omega arith)
  never_rising (x ∷ y ∷ zs) zero lt n h = true≢false (sym (n x ∙ h.0))
  never_rising (x ∷ y ∷ zs) (suc k) lt n h = never_rising (y ∷ zs) k (omega arith) n h.1

  rising_answer : (ps : List P) (r : Bool) → IsAllAdjacentAnswer (λ x y b. b ≡ is_before x y) ps r → IsTrue r ↔ AreRising cmp (map v ps)
  rising_answer ps true h = (λ t. rising_each ps (λ k d lt. subst (λ (n : ℕ). Tested ps k n true d) (add-one k) (h k d (omega arith))), λ k. refl)
  rising_answer ps false h = (λ t. absurd cc, λ k. absurd (never_rising ps h.0 (omega (arith, h.1)) (λ d. subst (λ (n : ℕ). Tested ps h.0 n false d) (add-one h.0) (h.2 d)) k))

  -- from the clause of `is_sorted_by`, if each call tests whether the first item is before the second
  pub rising_sorted : {F : Type 0} {g : Mut F (Bor P × (Bor P × Unit {0})) Bool} {f : F} (ps : List P) {r : Bool}
      → ((e : P → P → Bool) → ComputesOnPairs g e f → IsAllAdjacentAnswer (λ x y b. b ≡ e x y) ps r)
      → ((q : F) (a : Bor P × (Bor P × Unit {0})) (b : Bool) (q' : F) → Called g q a b q' → b ≡ is_before a.0.now a.1.0.now)
      → IsTrue r ↔ AreRising cmp (map v ps)
  rising_sorted {f = f} ps h each = rising_answer ps _ (h is_before (answers_always _ _ f each))

-- a list with one more member
map_more : {P X Y : Type 0} (f : X → Y) (v : P → X) (ps : List P) (i : ℕ) (p : P) → i < length ps → p ≡ get_or ps i p → map f (map v (take (suc i) ps)) ≡ map f (map v (take i ps)) ++ f (v p) ∷ []
map_more f v [] i p lt e = absurd (omega arith)
map_more f v (x ∷ xs) zero p lt e = ap (λ y. f (v y) ∷ []) (sym e)
map_more f v (x ∷ xs) (suc i) p lt e = ap (λ ys. f (v x) ∷ ys) (map_more f v xs i p (omega arith) e)

pub map_next : {P X Y : Type 0} (f : X → Y) (v : P → X) (ps : List P) (i : ℕ) (p : P) → i < length ps → p ≡ get_or ps i p → map f (map v (take (i + 1) ps)) ≡ map f (map v (take i ps)) ++ f (v p) ∷ []
map_next f v ps i p lt e = ap (λ (n : ℕ). map f (map v (take n ps))) (add-one i) ∙ map_more f v ps i p lt e

pub map_done : {P X Y : Type 0} (f : X → Y) (v : P → X) (ps : List P) (i : ℕ) → length ps ≤ i → map f (map v (take i ps)) ≡ map f (map v ps)
map_done {P} f v ps i le = ap (λ (xs : List P). map f (map v xs)) (take_all i ps le)

-- a property of all members is one of each
pub all_at : {P X : Type 0} (Q : X → Type 0) (v : P → X) (ps : List P) (i : ℕ) (p : P) → i < length ps → p ≡ get_or ps i p → AllByRecursion Q (map v ps) → Q (v p)
all_at Q v [] i p lt e h = absurd (omega arith)
all_at {P} Q v (x ∷ xs) zero p lt e h = subst (λ (y : P). Q (v y)) (sym e) h.0
all_at Q v (x ∷ xs) (suc i) p lt e h = all_at Q v xs i p (omega arith) e h.1

module _ {P X : Type 0} (f : X → ℕ) (v : P → X) where
  sum_more : (ps : List P) (i : ℕ) (p : P) → i < length ps → p ≡ get_or ps i p → sum_by f (map v (take (suc i) ps)) ≡ sum_by f (map v (take i ps)) + f (v p)
  sum_more [] i p lt e = absurd (omega arith)
  sum_more (x ∷ xs) zero p lt e = sum_by-cons f (v x) [] ∙ ap (λ (y : P). f (v y) + 0) (sym e) ∙ (let z : f (v p) + 0 ≡ 0 + f (v p) = omega arith in z)
  sum_more (x ∷ xs) (suc i) p lt e =
      let a = sum_by-cons f (v x) (map v (take (suc i) xs)) in
      let b = sum_by-cons f (v x) (map v (take i xs)) in
      let r = sum_more xs i p (omega arith) e in
      omega (arith, a, b, r)

  pub sum_next : (ps : List P) (i : ℕ) (p : P) → i < length ps → p ≡ get_or ps i p → sum_by f (map v (take (i + 1) ps)) ≡ sum_by f (map v (take i ps)) + f (v p)
  sum_next ps i p lt e = ap (λ (n : ℕ). sum_by f (map v (take n ps))) (add-one i) ∙ sum_more ps i p lt e

  pub sum_le : (ps : List P) (i : ℕ) → sum_by f (map v (take i ps)) ≤ sum_by f (map v ps)
  sum_le ps i = subst (λ (xs : List X). sum_by f xs ≤ sum_by f (map v ps)) (take-map v i ps) (sum_by-take-le f (map v ps) i)

  pub sum_done : (ps : List P) (i : ℕ) → length ps ≤ i → sum_by f (map v (take i ps)) ≡ sum_by f (map v ps)
  sum_done ps i le = ap (λ (xs : List P). sum_by f (map v xs)) (take_all i ps le)

none_first : (m : Text) (s : ImageSeries) (ss : List ImageSeries) → same_text s.series.measurement m ≡ false → points_of_measurement m ss ≡ sum_by (points_if m) ss → points_of_measurement m (s ∷ ss) ≡ 0 + sum_by (points_if m) ss
none_first m s ss e r = rw e (let z : sum_by (points_if m) ss ≡ 0 + sum_by (points_if m) ss = omega arith in r ∙ z)

if_of : (m : Text) (s : ImageSeries) (ss : List ImageSeries) (b : Bool) → same_text s.series.measurement m ≡ b → points_of_measurement m ss ≡ sum_by (points_if m) ss → points_of_measurement m (s ∷ ss) ≡ sum_by (points_if m) (s ∷ ss)
if_of m s ss true e r = rw e (sum_by-cons points_of_series s (filter (λ (x : ImageSeries). same_text x.series.measurement m) ss) ∙ ap (λ (n : ℕ). points_of_series s + n) r) ∙ sym (sum_by-cons (points_if m) s ss ∙ ap (λ (b : Bool). cond b (points_of_series s) 0 + sum_by (points_if m) ss) e)
if_of m s ss false e r = none_first m s ss e r ∙ sym (sum_by-cons (points_if m) s ss ∙ ap (λ (b : Bool). cond b (points_of_series s) 0 + sum_by (points_if m) ss) e)

pub of_measurement : (m : Text) (ss : List ImageSeries) → points_of_measurement m ss ≡ sum_by (points_if m) ss
of_measurement m [] = refl
of_measurement m (s ∷ ss) = if_of m s ss (same_text s.series.measurement m) refl (of_measurement m ss)

pub counted : (accepted left f t : ℕ) (r : Option ℕ) → left + f ≡ accepted → IsSubtracted left t r → (is_some r ≡ true → f + t ≤ accepted) × (f + t ≤ accepted → is_some r ≡ true)
counted accepted left f t (Some x) e h = (λ z. omega (arith, e, h), λ z. refl)
counted accepted left f t None e h = (λ z. absurd cc, λ le. absurd (omega (arith, e, h, le)))

pub taken : (left t : ℕ) (r : Option ℕ) → IsSubtracted left t r → (is_some r ≡ true → t ≤ left) × (t ≤ left → is_some r ≡ true)
taken left t (Some x) h = (λ z. omega (arith, h), λ z. refl)
taken left t None h = (λ z. absurd cc, λ le. absurd (omega (arith, h, le)))
