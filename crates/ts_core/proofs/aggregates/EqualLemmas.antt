-- Equality of aggregates by comparison.
use Rattle.std.proofs.Common.{◌≡◌, ℤ, Bool, true, ◌&&◌, nat_eq, int_eq, refl, sym, ap, subst, true≢false, Option, Some, None}
use Rattle.std.specs.Option.{option_eq}
use Rattle.std.specs.Cmp.Derive.{both_true}
use Rattle.std.proofs.lemmas.Bool.{eqb-true, eq-eqb, and_parts}
use Rattle.std.proofs.lemmas.Cmp.{int_eq_equiv}
use Rattle.std.proofs.lemmas.Bool.Decides.{Decides-int_eq}
use Rattle.ts_core.specs.declared.aggregates.aggregate.Extremes.{Extremes}
use Rattle.ts_core.specs.contracts.aggregates.aggregate.ExtremesPartialEq.TheImpl.{eq-value}
use Rattle.ts_core.specs.aggregates.Aggregates.{Aggregate}

same_point : (p q : ℤ × ℤ) → (int_eq p.0 q.0 && int_eq p.1 q.1) ≡ true → p ≡ q
same_point p q h =
    let s = and_parts (int_eq p.0 q.0) (int_eq p.1 q.1) h in
    let t = (Decides-int_eq p.0 q.0).0 s.0 in
    let v = (Decides-int_eq p.1 q.1).0 s.1 in
    λ i. (t i, v i)

abbrev are_equal : Extremes → Extremes → Bool
are_equal x y =
    int_eq x.min y.min && (int_eq x.max y.max && ((int_eq x.first.0 y.first.0 && int_eq x.first.1 y.first.1) && (int_eq x.last.0 y.last.0 && int_eq x.last.1 y.last.1)))

same_extremes : (x y : Extremes) → are_equal x y ≡ true → x ≡ y
same_extremes x y h =
    let a = and_parts (int_eq x.min y.min) _ h in
    let b = and_parts (int_eq x.max y.max) _ a.1 in
    let c = and_parts (int_eq x.first.0 y.first.0 && int_eq x.first.1 y.first.1) (int_eq x.last.0 y.last.0 && int_eq x.last.1 y.last.1) b.1 in
    let min = (Decides-int_eq x.min y.min).0 a.0 in
    let max = (Decides-int_eq x.max y.max).0 b.0 in
    let first = same_point x.first y.first c.0 in
    let last = same_point x.last y.last c.1 in
    λ i. record { min = min i; max = max i; first = first i; last = last i }

equal_itself : (x : Extremes) → are_equal x x ≡ true
equal_itself x =
    both_true (int_eq_equiv.refl x.min) (both_true (int_eq_equiv.refl x.max)
    (both_true (both_true (int_eq_equiv.refl x.first.0) (int_eq_equiv.refl x.first.1)) (both_true (int_eq_equiv.refl x.last.0) (int_eq_equiv.refl x.last.1))))

same_options : (x y : Option Extremes) → option_eq eq-value.it x y ≡ true → x ≡ y
same_options None None h = refl
same_options (Some x) (Some y) h = ap Some (same_extremes x y h)
same_options _ _ h = absurd (true≢false (sym h))

option_itself : (x : Option Extremes) → option_eq eq-value.it x x ≡ true
option_itself None = refl
option_itself (Some x) = equal_itself x

abbrev pub equal_aggregates : Aggregate → Aggregate → Bool
equal_aggregates a b = int_eq a.sum b.sum && (nat_eq a.count b.count && option_eq eq-value.it a.extremes b.extremes)

pub same_aggregates : (a b : Aggregate) → equal_aggregates a b ≡ true → a ≡ b
same_aggregates a b h =
    let s = and_parts (int_eq a.sum b.sum) _ h in
    let t = and_parts (nat_eq a.count b.count) _ s.1 in
    let sum = (Decides-int_eq a.sum b.sum).0 s.0 in
    let count = eqb-true a.count b.count t.0 in
    let extremes = same_options a.extremes b.extremes t.1 in
    λ i. record { count = count i; sum = sum i; extremes = extremes i }

pub equal_aggregates_from : (a b : Aggregate) → a ≡ b → equal_aggregates a b ≡ true
equal_aggregates_from a b e = subst (λ x. equal_aggregates a x ≡ true) e (both_true (int_eq_equiv.refl a.sum) (both_true (eq-eqb a.count a.count refl) (option_itself a.extremes)))
