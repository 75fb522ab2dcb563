-- The fold of points as their only aggregate, by the definition in the field's words.
use Rattle.std.proofs.lemmas.List.{map-id}
use Rattle.ts_core.proofs.lists.MembersLemmas.{map_back}
use Rattle.ts_core.proofs.lists.Permutations.{pick}
use Rattle.std.proofs.Common.{◌≡◌, ◌⊎◌, ◌+◌, ◌≤◌, ◌^◌, cond, ℤ, ◌+ℤ◌, ◌≤ℤ◌, List, [], ◌∷◌, length, map, refl, sym, ◌∙◌, ap, subst, inl, inr, ⊎_elim, arith, one-add, Option, Some, None, MatchOption, Ordering, int_cmp}
use Rattle.std.specs.List.{AllByRecursion}
use Rattle.std.specs.Cmp.{IsTotalOrder, int_cmp_total}
use Rattle.std.proofs.lemmas.Bool.{le-ltb}
use Rattle.std.proofs.lemmas.Cmp.{upto}
use Rattle.std.proofs.lemmas.Int.{ints}
use Rattle.std.proofs.lemmas.Map.Lookups.{CmpEqualImpliesEq, exact_signed}
use Rattle.ts_core.specs.declared.aggregates.aggregate.Extremes.{Extremes}
use Rattle.ts_core.specs.facts.Facts.{Fact}
use Rattle.ts_core.specs.lists.Members.{Among}
use Rattle.ts_core.specs.aggregates.Orders.{lesser, down_cmp, early_cmp, late_cmp}
use Rattle.ts_core.specs.aggregates.Aggregates.{Aggregate, extremes_of_one, aggregate_of_one, merged_extremes, merged, merged_within, aggregate_of_points, aggregate_of, points_of, sum_of_points, AreExtremesOf, IsAggregateOfPoints, IsAggregateOf}
use Rattle.ts_core.specs.aggregates.OrderLaws.{IsUpto, IsUpto-refl, lesser-left, lesser-right, lesser_one, exact_down, down_total, early_total, late_total, exact_early, exact_late, le_from_IsUpto, words_from_early, words_from_late}

-- ---- an extreme of one more

pub record IsFirstBy {X K : Type 0} (R : K → K → Ordering) (key : X → K) (xs : List X) (k : K) : Type 0 where
  pub among : Among k (map key xs)
  pub none_before : AllByRecursion (λ x. IsUpto R k (key x)) xs

module _ {X K : Type 0} {R : K → K → Ordering} (o : IsTotalOrder R) (exact : CmpEqualImpliesEq R) (key : X → K) where
  first_one : (x : X) → IsFirstBy R key (x ∷ []) (key x)
  first_one x = record { among = inl refl; none_before = (IsUpto-refl o exact (key x), tt) }

  lower : (j k : K) (xs : List X) → IsUpto R j k → AllByRecursion (λ x. IsUpto R k (key x)) xs → AllByRecursion (λ x. IsUpto R j (key x)) xs
  lower j k [] h a = tt
  lower j k (x ∷ xs) h a = (upto o j k (key x) h a.0, lower j k xs h a.1)

  first_more : (x : X) (xs : List X) (k : K) → IsFirstBy R key xs k → IsFirstBy R key (x ∷ xs) (lesser R (key x) k)
  first_more x xs k f =
      let m : K = lesser R (key x) k in
      record {
        among = ⊎_elim {C = Among m (key x ∷ map key xs)} (λ e. inl e) (λ e. inr (subst (λ z. Among z (map key xs)) (sym e) f.among)) (lesser_one R (key x) k);
        none_before = (lesser-left o exact (key x) k, lower m k xs (lesser-right o exact (key x) k) f.none_before);
      }

abbrev point_of : ℤ × ℤ → ℤ × ℤ
point_of p = p

abbrev value_of : ℤ × ℤ → ℤ
value_of p = p.1

record AreFirst (ps : List (ℤ × ℤ)) (e : Extremes) : Type 0 where
  min : IsFirstBy int_cmp value_of ps e.min
  max : IsFirstBy down_cmp value_of ps e.max
  first : IsFirstBy early_cmp point_of ps e.first
  last : IsFirstBy late_cmp point_of ps e.last

extremes_one : (p : ℤ × ℤ) → AreFirst (p ∷ []) (extremes_of_one p.0 p.1)
extremes_one p = record {
  min = first_one int_cmp_total exact_signed value_of p;
  max = first_one down_total exact_down value_of p;
  first = first_one early_total exact_early point_of p;
  last = first_one late_total exact_late point_of p;
}

extremes_more : (p : ℤ × ℤ) (ps : List (ℤ × ℤ)) (e : Option Extremes) → MatchOption e (ps ≡ []) (AreFirst ps) → MatchOption (merged_extremes (Some (extremes_of_one p.0 p.1)) e) (p ∷ ps ≡ []) (AreFirst (p ∷ ps))
extremes_more p ps None h = subst (λ qs. AreFirst (p ∷ qs) (extremes_of_one p.0 p.1)) (sym h) (extremes_one p)
extremes_more p ps (Some e) h = record {
  min = first_more int_cmp_total exact_signed value_of p ps e.min h.min;
  max = first_more down_total exact_down value_of p ps e.max h.max;
  first = first_more early_total exact_early point_of p ps e.first h.first;
  last = first_more late_total exact_late point_of p ps e.last h.last;
}

firsts_of_fold : (ps : List (ℤ × ℤ)) → MatchOption (aggregate_of_points ps).extremes (ps ≡ []) (AreFirst ps)
firsts_of_fold [] = refl
firsts_of_fold (p ∷ ps) = extremes_more p ps (aggregate_of_points ps).extremes (firsts_of_fold ps)

in_words : (ps : List (ℤ × ℤ)) (e : Extremes) → AreFirst ps e → AreExtremesOf ps e
in_words ps e f = record {
  reached = record {
    min = f.min.among;
    max = f.max.among;
    first = subst (Among e.first) (map-id ps) f.first.among;
    last = subst (Among e.last) (map-id ps) f.last.among;
  };
  within = λ p a. record {
    min = le_from_IsUpto e.min p.1 (pick (λ x. IsUpto int_cmp e.min (value_of x)) p ps f.min.none_before a);
    max = le_from_IsUpto p.1 e.max (pick (λ x. IsUpto down_cmp e.max (value_of x)) p ps f.max.none_before a);
    first = words_from_early e.first p (pick (λ x. IsUpto early_cmp e.first (point_of x)) p ps f.first.none_before a);
    last = words_from_late e.last p (pick (λ x. IsUpto late_cmp e.last (point_of x)) p ps f.last.none_before a);
  };
}

words_of : (ps : List (ℤ × ℤ)) (e : Option Extremes) → MatchOption e (ps ≡ []) (AreFirst ps) → MatchOption e (ps ≡ []) (AreExtremesOf ps)
words_of ps None h = h
words_of ps (Some e) h = in_words ps e h

-- where both fit, nothing is left out
pub merged_within-fits : (part a : Aggregate) → a.count + part.count ≤ 2 ^ 62 → merged_within part a ≡ merged a part
merged_within-fits part a h = ap (λ b. cond b a (merged a part)) (le-ltb (2 ^ 62) (a.count + part.count) h)

pub count_of_fold : (ps : List (ℤ × ℤ)) → (aggregate_of_points ps).count ≡ length ps
count_of_fold [] = refl
count_of_fold (p ∷ ps) = ap (λ n. 1 + n) (count_of_fold ps) ∙ one-add (length ps)

sum_of_fold : (ps : List (ℤ × ℤ)) → (aggregate_of_points ps).sum ≡ sum_of_points ps
sum_of_fold [] = refl
sum_of_fold (p ∷ ps) = ap (λ z. p.1 +ℤ z) (sum_of_fold ps)

-- the fold is the aggregate
pub aggregate_of_points-is : (ps : List (ℤ × ℤ)) → IsAggregateOfPoints ps (aggregate_of_points ps)
aggregate_of_points-is ps = record {
  count = count_of_fold ps;
  sum = sum_of_fold ps;
  extremes = words_of ps (aggregate_of_points ps).extremes (firsts_of_fold ps);
}

pub aggregate_of-points : (fs : List Fact) → aggregate_of fs ≡ aggregate_of_points (points_of fs)
aggregate_of-points [] = refl
aggregate_of-points (f ∷ fs) = ap (merged (aggregate_of_one f.time f.value)) (aggregate_of-points fs)

pub aggregate_of-is : (fs : List Fact) → IsAggregateOf fs (aggregate_of fs)
aggregate_of-is fs = subst (IsAggregateOf fs) (sym (aggregate_of-points fs)) (aggregate_of_points-is (points_of fs))

-- ---- and there is one alone

Reaches : {X K : Type 0} → (X → K) → K → List X → Type 0
Reaches {X} key k xs = (x : X) × (Among x xs × (k ≡ key x))

reaches : {X K : Type 0} (key : X → K) (k : K) (xs : List X) → Among k (map key xs) → Reaches key k xs
unfolding Reaches
reaches key k xs h = let r = map_back key xs k h in (r.0, (r.1, sym r.2))

-- neither of two points comes before the other
one_point : (B : ℤ → ℤ → Type 0) → ((s t : ℤ) → B s t → B t s → ⊥) → (p q : ℤ × ℤ) → B p.0 q.0 ⊎ ((p.0 ≡ q.0) × (q.1 ≤ℤ p.1)) → B q.0 p.0 ⊎ ((q.0 ≡ p.0) × (p.1 ≤ℤ q.1)) → p ≡ q
one_point B never p q (inl h) (inl k) = absurd (never p.0 q.0 h k)
one_point B never p q (inl h) (inr k) = let b = subst (B p.0) k.0 h in absurd (never p.0 p.0 b b)
one_point B never p q (inr h) (inl k) = let b = subst (B q.0) h.0 k in absurd (never q.0 q.0 b b)
one_point B never p q (inr h) (inr k) =
    let a = h.1 in
    let b = k.1 in
    let e : p.1 ≡ q.1 = omega (arith, ints) in
    λ i. (h.0 i, e i)
