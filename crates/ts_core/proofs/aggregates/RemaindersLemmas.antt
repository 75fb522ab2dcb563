-- The rest of an aggregate, if it is determined: the aggregate of the other points.
use Rattle.std.proofs.lemmas.Option.{same_Some}
use Rattle.std.proofs.Common.{◌≡◌, ℕ, ◌+◌, ◌-◌, ◌<◌, ℤ, ◌+ℤ◌, ◌-ℤ◌, ◌<ℤ◌, List, [], ◌∷◌, refl, sym, ◌∙◌, ap, subst, arith, Option, Some, None, MatchOption, IsSome, IfSome, ⊎_elim, Ordering, Less, int_cmp}
use Rattle.std.specs.Cmp.{IsTotalOrder, int_cmp_total, int_cmp_is}
use Rattle.std.proofs.lemmas.Int.{ints}
use Rattle.std.proofs.lemmas.Map.Lookups.{CmpEqualImpliesEq, exact_signed}
use Rattle.ts_core.specs.declared.aggregates.aggregate.Extremes.{Extremes}
use Rattle.ts_core.specs.aggregates.Partials.{PartialLaws, fold_by}
use Rattle.ts_core.specs.aggregates.Orders.{lesser}
use Rattle.ts_core.specs.aggregates.OrderLaws.{lesser_one, lesser-before, not_itself, exact_down, down_total, early_total, late_total, exact_early, exact_late}
use Rattle.ts_core.specs.aggregates.Aggregates.{Aggregate, empty_aggregate, extremes_of_both, merged_extremes, merged, IsSpread, IsSound}
use Rattle.ts_core.specs.aggregates.MergeLaws.{aggregate_laws}
use Rattle.ts_core.specs.aggregates.SoundLaws.{empty_by_count}
use Rattle.ts_core.specs.aggregates.Remainders.{IsOnlyRest, PossibleLaws, AreBeyond, BothAreBeyond, inner_rest, LiesInside}

-- ---- nothing is taken out, or all

pub IsOnlyRest-all : (whole part : Aggregate) → part ≡ whole → IsOnlyRest IsSound merged whole part empty_aggregate
IsOnlyRest-all whole part e = record {
  possible = refl;
  gives = aggregate_laws.comm part empty_aggregate ∙ aggregate_laws.unit part ∙ e;
  only = λ other s g. empty_by_count other s (let n : part.count + other.count ≡ part.count = ap (λ (a : Aggregate). a.count) (g ∙ sym e) in omega arith);
}

-- ---- the part holds no extreme of the whole

before_from_lt : (x y : ℤ) → x <ℤ y → int_cmp x y ≡ Less
before_from_lt x y h = sym (int_cmp_is x y Less h)

-- if the lesser of p and r comes before p, it is r
module _ {K : Type 0} {R : K → K → Ordering} (o : IsTotalOrder R) (exact : CmpEqualImpliesEq R) where
  other_one : (p r w : K) → R w p ≡ Less → lesser R p r ≡ w → r ≡ w
  other_one p r w b e =
      ⊎_elim {C = r ≡ w} (λ (k : lesser R p r ≡ p). absurd (not_itself o exact p (subst (λ z. R z p ≡ Less) (sym e ∙ k) b))) (λ (k : lesser R p r ≡ r). sym k ∙ e) (lesser_one R p r)

extremes_given : (w p : Extremes) → AreBeyond w p → extremes_of_both p w ≡ w
extremes_given w p b =
    let min = lesser-before int_cmp_total exact_signed p.min w.min (before_from_lt w.min p.min b.min) in
    let max = lesser-before down_total exact_down p.max w.max (before_from_lt p.max w.max b.max) in
    let first = lesser-before early_total exact_early p.first w.first b.first in
    let last = lesser-before late_total exact_late p.last w.last b.last in
    λ i. record { min = min i; max = max i; first = first i; last = last i }

extremes_only : (w p r : Extremes) → AreBeyond w p → extremes_of_both p r ≡ w → r ≡ w
extremes_only w p r b e =
    let min = other_one int_cmp_total exact_signed p.min r.min w.min (before_from_lt w.min p.min b.min) (ap (λ (x : Extremes). x.min) e) in
    let max = other_one down_total exact_down p.max r.max w.max (before_from_lt p.max w.max b.max) (ap (λ (x : Extremes). x.max) e) in
    let first = other_one early_total exact_early p.first r.first w.first b.first (ap (λ (x : Extremes). x.first) e) in
    let last = other_one late_total exact_late p.last r.last w.last b.last (ap (λ (x : Extremes). x.last) e) in
    λ i. record { min = min i; max = max i; first = first i; last = last i }

options_given : (w p : Option Extremes) → BothAreBeyond w p → merged_extremes p w ≡ w
options_given (Some w) (Some p) b = ap Some (extremes_given w p b)
options_given _ p b = absurd b

options_only : (w p r : Option Extremes) → BothAreBeyond w p → merged_extremes p r ≡ w → r ≡ w
options_only (Some w) (Some p) None b e = absurd (not_itself int_cmp_total exact_signed p.min (subst (λ z. int_cmp z p.min ≡ Less) (ap (λ (x : Extremes). x.min) (sym (same_Some p w e))) (before_from_lt w.min p.min b.min)))
options_only (Some w) (Some p) (Some r) b e = ap Some (extremes_only w p r b (same_Some (extremes_of_both p r) w e))
options_only _ p r b e = absurd b

left_over : (m n : ℕ) (s : ℤ) (p w : Option Extremes) → BothAreBeyond w p → MatchOption w (record { count = m - n; sum = s; extremes = w } ≡ empty_aggregate) (IsSpread (m - n) s) → n < m
left_over m n s p None b h = absurd b
left_over m n s p (Some w) b h = let a = h.some in omega arith

pub IsOnlyRest-inner : (whole part : Aggregate) → LiesInside part whole → IsOnlyRest IsSound merged whole part (inner_rest whole part)
IsOnlyRest-inner whole part l =
    let fewer : part.count < whole.count = left_over whole.count part.count (whole.sum -ℤ part.sum) part.extremes whole.extremes l.beyond l.possible in
    let count : part.count + (whole.count - part.count) ≡ whole.count = omega arith in
    let sum : part.sum +ℤ (whole.sum -ℤ part.sum) ≡ whole.sum = omega (arith, ints) in
    let extremes = options_given whole.extremes part.extremes l.beyond in
    record {
      possible = l.possible;
      gives = λ i. record { count = count i; sum = sum i; extremes = extremes i };
      only = λ other _ e.
          let c : other.count ≡ whole.count - part.count = (let k : part.count + other.count ≡ whole.count = ap (λ (a : Aggregate). a.count) e in omega arith) in
          let s : other.sum ≡ whole.sum -ℤ part.sum = (let k : part.sum +ℤ other.sum ≡ whole.sum = ap (λ (a : Aggregate). a.sum) e in grind (arith, ints)) in
          let x : other.extremes ≡ whole.extremes = options_only whole.extremes part.extremes other.extremes l.beyond (ap (λ (a : Aggregate). a.extremes) e) in
          λ i. record { count = c i; sum = s i; extremes = x i };
    }

-- ---- the rest of a fold is the fold of the others

module _ {M : Type 0} {IsPossible : M → Type 0} {empty : M} {single : ℤ → ℤ → M} {merge : M → M → M} {count : M → ℕ} (laws : PartialLaws empty single merge count) (possible : PossibleLaws IsPossible empty single merge) {X : Type 0} (time value : X → ℤ) where
  pub fold-possible : (xs : List X) → IsPossible (fold_by empty merge (λ x. single (time x) (value x)) xs)
  fold-possible [] = possible.of_none
  fold-possible (x ∷ xs) = possible.of_both _ _ (possible.of_one (time x) (value x)) (fold-possible xs)

-- ---- at the names of a function's steps

pub sound_at : (n : ℕ) (s : ℤ) (x : Option Extremes) (w : Extremes) → x ≡ Some w → IsSpread n s w → IsSound (record { count = n; sum = s; extremes = x })
sound_at n s x w e h = subst (λ y. IsSound (record { count = n; sum = s; extremes = y })) (sym e) h

module _ (whole part : Aggregate) (w p : Extremes) (n : ℕ) (s : ℤ)
    (is_whole : whole.extremes ≡ Some w) (is_part : part.extremes ≡ Some p) (is_count : n ≡ whole.count - part.count) (is_sum : s ≡ whole.sum -ℤ part.sum) where
  pub beyond_from : LiesInside part whole → AreBeyond w p
  beyond_from l = subst (λ x. BothAreBeyond (Some w) x) is_part (subst (λ x. BothAreBeyond x part.extremes) is_whole l.beyond)

  pub spread_from : LiesInside part whole → IsSpread n s w
  spread_from l =
      subst (λ k. IsSpread k s w) (sym is_count) (subst (λ z. IsSpread (whole.count - part.count) z w) (sym is_sum)
      (subst (λ x. MatchOption x (record { count = whole.count - part.count; sum = whole.sum -ℤ part.sum; extremes = x } ≡ empty_aggregate) (IsSpread (whole.count - part.count) (whole.sum -ℤ part.sum))) is_whole l.possible))

  pub LiesInside_from : AreBeyond w p → IsSpread n s w → LiesInside part whole
  LiesInside_from b h = record {
    beyond = subst (λ x. BothAreBeyond x part.extremes) (sym is_whole) (subst (λ x. BothAreBeyond (Some w) x) (sym is_part) b);
    possible = subst IsSound (λ i. record { count = is_count i; sum = is_sum i; extremes = whole.extremes }) (sound_at n s whole.extremes w is_whole h);
  }

pub rest_of_inner : (whole part : Aggregate) (r : Option Aggregate) → (IsSome r → LiesInside part whole) → IfSome r (λ rest. rest ≡ inner_rest whole part) → IfSome r (λ rest. IsOnlyRest IsSound merged whole part rest)
rest_of_inner whole part None inside e = e
rest_of_inner whole part (Some rest) inside e = subst (IsOnlyRest IsSound merged whole part) (sym e) (IsOnlyRest-inner whole part (inside refl))
