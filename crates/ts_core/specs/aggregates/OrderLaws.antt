-- The lesser of two is one of them, isn't after either, and doesn't depend on the order of the arguments. (Own rules.)
use Rattle.std.proofs.Common.{int_lt, ◌≡◌, ◌⊎◌, ℤ, ◌≤ℤ◌, ◌<ℤ◌, true, false, cond, refl, sym, ◌∙◌, ap, inl, inr, Ordering, Less, Equal, Greater, is_gt, true≢false, int_cmp, arith}
use Rattle.std.specs.Ordering.{ordering_reverse, ordering_then, MatchOrdering}
use Rattle.std.specs.Int.{int_min, int_max}
use Rattle.std.specs.Cmp.{IsTotalOrder, int_cmp_total, int_ranks}
use Rattle.std.proofs.lemmas.Cmp.{upto, tied_itself, on_total, then_total, back_total}
use Rattle.std.proofs.lemmas.Int.{ints}
use Rattle.std.proofs.lemmas.Map.Lookups.{CmpEqualImpliesEq, exact_signed, exact_pairs}
use Rattle.ts_core.specs.aggregates.Orders.{lesser, down_cmp, early_cmp, late_cmp}

-- x isn't after y
abbrev pub IsUpto : {K : Type 0} → (K → K → Ordering) → K → K → Type 0
IsUpto R x y = is_gt (R x y) ≡ false

module _ {K : Type 0} {R : K → K → Ordering} (o : IsTotalOrder R) (exact : CmpEqualImpliesEq R) where
  pub IsUpto-refl : (x : K) → IsUpto R x x
  IsUpto-refl x = ap is_gt (tied_itself o x)

  pub IsUpto-antisymm : (x y : K) → IsUpto R x y → IsUpto R y x → x ≡ y
  IsUpto-antisymm x y h k =
      elim (R x y) as (λ r. R x y ≡ r → x ≡ y) [
        | Less ↦ λ e. absurd (true≢false (sym (ap is_gt (o.antisymm y x ∙ ap ordering_reverse e)) ∙ k))
        | Equal ↦ λ e. exact x y e
        | Greater ↦ λ e. absurd (true≢false (sym (ap is_gt e) ∙ h))
      ] refl

  -- after y, so not before it
  turned : (x y : K) → is_gt (R x y) ≡ true → IsUpto R y x
  turned x y h =
      elim (R x y) as (λ r. R x y ≡ r → IsUpto R y x) [
        | Less ↦ λ e. absurd (true≢false (sym h ∙ ap is_gt e))
        | Equal ↦ λ e. absurd (true≢false (sym h ∙ ap is_gt e))
        | Greater ↦ λ e. ap is_gt (o.antisymm y x ∙ ap ordering_reverse e)
      ] refl

  pub lesser-left : (a b : K) → IsUpto R (lesser R a b) a
  lesser-left a b =
      elim (is_gt (R a b)) as (λ r. is_gt (R a b) ≡ r → IsUpto R (cond r b a) a) [
        | true ↦ λ e. turned a b e
        | false ↦ λ e. IsUpto-refl a
      ] refl

  pub lesser-right : (a b : K) → IsUpto R (lesser R a b) b
  lesser-right a b =
      elim (is_gt (R a b)) as (λ r. is_gt (R a b) ≡ r → IsUpto R (cond r b a) b) [
        | true ↦ λ e. IsUpto-refl b
        | false ↦ λ e. e
      ] refl

  pub lesser-meets : (x a b : K) → IsUpto R x a → IsUpto R x b → IsUpto R x (lesser R a b)
  lesser-meets x a b h k =
      elim (is_gt (R a b)) as (λ r. IsUpto R x (cond r b a)) [ true ↦ k | false ↦ h ]

  pub lesser_comm : (a b : K) → lesser R a b ≡ lesser R b a
  lesser_comm a b = IsUpto-antisymm _ _
      (lesser-meets (lesser R a b) b a (lesser-right a b) (lesser-left a b))
      (lesser-meets (lesser R b a) a b (lesser-right b a) (lesser-left b a))

  pub lesser_assoc : (a b c : K) → lesser R (lesser R a b) c ≡ lesser R a (lesser R b c)
  lesser_assoc a b c =
      let ab : K = lesser R a b in
      let bc : K = lesser R b c in
      let l : K = lesser R ab c in
      let r : K = lesser R a bc in
      IsUpto-antisymm l r
      (lesser-meets l a bc (upto o l ab a (lesser-left ab c) (lesser-left a b))
      (lesser-meets l b c (upto o l ab b (lesser-left ab c) (lesser-right a b)) (lesser-right ab c)))
      (lesser-meets r ab c
      (lesser-meets r a b (lesser-left a bc) (upto o r bc b (lesser-right a bc) (lesser-left b c)))
      (upto o r bc c (lesser-right a bc) (lesser-right b c)))

  -- if the second comes first, it is the lesser
  pub lesser-before : (a b : K) → R b a ≡ Less → lesser R a b ≡ b
  lesser-before a b h = ap (λ r. cond (is_gt r) b a) (o.antisymm a b ∙ ap ordering_reverse h)

  -- no item comes before itself
  pub not_itself : (a : K) → R a a ≡ Less → ⊥
  not_itself a h = let n : Less ≡ Equal = sym h ∙ tied_itself o a in cc

-- the lesser is one of the two
pub lesser_one : {K : Type 0} (R : K → K → Ordering) (a b : K) → (lesser R a b ≡ a) ⊎ (lesser R a b ≡ b)
lesser_one R a b =
    elim (is_gt (R a b)) as (λ r. (cond r b a ≡ a) ⊎ (cond r b a ≡ b)) [ true ↦ inr refl | false ↦ inl refl ]

-- ---- the orders of values and points

pub exact_down : CmpEqualImpliesEq down_cmp
exact_down x y h = sym (exact_signed y x h)

pub down_total : IsTotalOrder down_cmp
down_total = back_total int_cmp_total

pub early_total : IsTotalOrder early_cmp
early_total = then_total (on_total (λ (p : ℤ × ℤ). p.0) int_cmp_total) (on_total (λ (p : ℤ × ℤ). p.1) down_total)

pub late_total : IsTotalOrder late_cmp
late_total = then_total (on_total (λ (p : ℤ × ℤ). p.0) down_total) (on_total (λ (p : ℤ × ℤ). p.1) down_total)

pub exact_early : CmpEqualImpliesEq early_cmp
exact_early = exact_pairs int_cmp down_cmp exact_signed exact_down

pub exact_late : CmpEqualImpliesEq late_cmp
exact_late = exact_pairs down_cmp down_cmp exact_down exact_down

-- ---- stated by numbers

upto_ranked : (x y : ℤ) (r : Ordering) → MatchOrdering r (x <ℤ y) (x ≡ y) (y <ℤ x) → is_gt r ≡ false → x ≤ℤ y
upto_ranked x y Less m h = omega (arith, ints)
upto_ranked x y Equal m h = omega (arith, ints)
upto_ranked x y Greater m h = absurd (true≢false h)

pub le_from_IsUpto : (x y : ℤ) → IsUpto int_cmp x y → x ≤ℤ y
le_from_IsUpto x y h = upto_ranked x y (int_cmp x y) (int_ranks x y) h

then_ranked : (s t v w : ℤ) (r : Ordering) → MatchOrdering r (s <ℤ t) (s ≡ t) (t <ℤ s)
    → is_gt (ordering_then r (int_cmp v w)) ≡ false → (s <ℤ t) ⊎ ((s ≡ t) × (v ≤ℤ w))
then_ranked s t v w Less m h = inl m
then_ranked s t v w Equal m h = inr (m, le_from_IsUpto v w h)
then_ranked s t v w Greater m h = absurd (true≢false h)

pub words_from_early : (p q : ℤ × ℤ) → IsUpto early_cmp p q → (p.0 <ℤ q.0) ⊎ ((p.0 ≡ q.0) × (q.1 ≤ℤ p.1))
words_from_early p q h = then_ranked p.0 q.0 q.1 p.1 (int_cmp p.0 q.0) (int_ranks p.0 q.0) h

late_ranked : (s t v w : ℤ) → (t <ℤ s) ⊎ ((t ≡ s) × (v ≤ℤ w)) → (t <ℤ s) ⊎ ((s ≡ t) × (v ≤ℤ w))
late_ranked s t v w (inl l) = inl l
late_ranked s t v w (inr e) = inr (sym e.0, e.1)

pub words_from_late : (p q : ℤ × ℤ) → IsUpto late_cmp p q → (q.0 <ℤ p.0) ⊎ ((p.0 ≡ q.0) × (q.1 ≤ℤ p.1))
words_from_late p q h =
    late_ranked p.0 q.0 q.1 p.1 (then_ranked q.0 p.0 q.1 p.1 (int_cmp q.0 p.0) (int_ranks q.0 p.0) h)

-- ---- `min` and `max` of values

min_ranked : (a b : ℤ) (r : Ordering) → MatchOrdering r (a <ℤ b) (a ≡ b) (b <ℤ a) → int_min a b ≡ cond (is_gt r) b a
min_ranked a b Less m = let e : int_lt b a ≡ false = grind (arith, ints) in ap (λ t. cond t b a) e
min_ranked a b Equal m = let e : int_lt b a ≡ false = grind (arith, ints) in ap (λ t. cond t b a) e
min_ranked a b Greater m = let e : int_lt b a ≡ true = grind (arith, ints) in ap (λ t. cond t b a) e

pub min-lesser : (a b : ℤ) → int_min a b ≡ lesser int_cmp a b
min-lesser a b = min_ranked a b (int_cmp a b) (int_ranks a b)

max_ranked : (a b : ℤ) (r : Ordering) → MatchOrdering r (b <ℤ a) (b ≡ a) (a <ℤ b) → int_max a b ≡ cond (is_gt r) b a
max_ranked a b Less m = let e : int_lt b a ≡ true = grind (arith, ints) in ap (λ t. cond t a b) e
max_ranked a b Equal m = let e : int_lt b a ≡ false = grind (arith, ints) in ap (λ t. cond t a b) e ∙ m
max_ranked a b Greater m = let e : int_lt b a ≡ false = grind (arith, ints) in ap (λ t. cond t a b) e

pub max-lesser : (a b : ℤ) → int_max a b ≡ lesser down_cmp a b
max-lesser a b = max_ranked a b (int_cmp b a) (int_ranks b a)
