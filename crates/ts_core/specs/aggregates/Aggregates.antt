-- Aggregates of points: their count, sum and extremes.
-- (InfluxData 1.8, InfluxQL functions: COUNT, SUM, MIN, MAX, FIRST, LAST. Own rule: if several points have the extreme
-- time, the one with the greatest value is the first, or the last.)
use Rattle.std.specs.Prelude.{◌≡◌, ◌⊎◌, ℕ, ◌+◌, ◌<◌, ◌≤◌, ◌^◌, ℤ, pos, ◌+ℤ◌, ◌*ℤ◌, ◌≤ℤ◌, ◌<ℤ◌, List, [], ◌∷◌, length, map, Option, Some, None, MatchOption}
use Rattle.std.specs.Ordering.{int_cmp}
use Rattle.ts_core.specs.declared.aggregates.aggregate.Extremes.{Extremes}
use Rattle.ts_core.specs.lists.Members.{Among}
use Rattle.ts_core.specs.lists.Changes.{joined_within}
use Rattle.ts_core.specs.facts.Facts.{Fact}
use Rattle.ts_core.specs.aggregates.Partials.{fold_by}
use Rattle.ts_core.specs.aggregates.Orders.{lesser, down_cmp, early_cmp, late_cmp}

pub record Aggregate : Type 0 where
  pub count : ℕ
  pub sum : ℤ
  pub extremes : Option Extremes

abbrev pub empty_aggregate : Aggregate
empty_aggregate = record { count = 0; sum = pos 0; extremes = None }

abbrev pub extremes_of_one : ℤ → ℤ → Extremes
extremes_of_one t v = record { min = v; max = v; first = (t, v); last = (t, v) }

abbrev pub aggregate_of_one : ℤ → ℤ → Aggregate
aggregate_of_one t v = record { count = 1; sum = v; extremes = Some (extremes_of_one t v) }

abbrev pub extremes_of_both : Extremes → Extremes → Extremes
extremes_of_both x y = record {
  min = lesser int_cmp x.min y.min;
  max = lesser down_cmp x.max y.max;
  first = lesser early_cmp x.first y.first;
  last = lesser late_cmp x.last y.last;
}

abbrev pub merged_extremes : Option Extremes → Option Extremes → Option Extremes
merged_extremes None y = y
merged_extremes (Some x) None = Some x
merged_extremes (Some x) (Some y) = Some (extremes_of_both x y)

abbrev pub merged : Aggregate → Aggregate → Aggregate
merged x y =
    record { count = x.count + y.count; sum = x.sum +ℤ y.sum; extremes = merged_extremes x.extremes y.extremes }

abbrev pub count_in : Aggregate → ℕ
count_in a = a.count

-- merges a part, if the counts add up to at most 2^62; else changes nothing
abbrev pub merged_within : Aggregate → Aggregate → Aggregate
merged_within = joined_within count_in merged

-- the aggregate of points; a point is a time with a value
abbrev pub aggregate_of_points : List (ℤ × ℤ) → Aggregate
aggregate_of_points ps = fold_by empty_aggregate merged (λ (p : ℤ × ℤ). aggregate_of_one p.0 p.1) ps

abbrev pub aggregate_of : List Fact → Aggregate
aggregate_of fs = fold_by empty_aggregate merged (λ (f : Fact). aggregate_of_one f.time f.value) fs

-- ---- the same, stated by properties

abbrev pub points_of : List Fact → List (ℤ × ℤ)
points_of fs = map (λ (f : Fact). (f.time, f.value)) fs

abbrev pub sum_of_points : List (ℤ × ℤ) → ℤ
sum_of_points [] = pos 0
sum_of_points (p ∷ ps) = p.1 +ℤ sum_of_points ps

-- each extreme is attained by a point
pub record AreReached (ps : List (ℤ × ℤ)) (e : Extremes) : Type 0 where
  pub min : Among e.min (map (λ (p : ℤ × ℤ). p.1) ps)
  pub max : Among e.max (map (λ (p : ℤ × ℤ). p.1) ps)
  pub first : Among e.first ps
  pub last : Among e.last ps

-- the value is between min and max, and the time isn't before the first or after the last. At the first or last time,
-- the value isn't greater than that of the extreme.
pub record LiesWithin (e : Extremes) (p : ℤ × ℤ) : Type 0 where
  pub min : e.min ≤ℤ p.1
  pub max : p.1 ≤ℤ e.max
  pub first : (e.first.0 <ℤ p.0) ⊎ ((e.first.0 ≡ p.0) × (p.1 ≤ℤ e.first.1))
  pub last : (p.0 <ℤ e.last.0) ⊎ ((e.last.0 ≡ p.0) × (p.1 ≤ℤ e.last.1))

pub record AreExtremesOf (ps : List (ℤ × ℤ)) (e : Extremes) : Type 0 where
  pub reached : AreReached ps e
  pub within : (p : ℤ × ℤ) → Among p ps → LiesWithin e p

-- the count, the sum and the extremes of the points; no extremes without points
pub record IsAggregateOfPoints (ps : List (ℤ × ℤ)) (a : Aggregate) : Type 0 where
  pub count : a.count ≡ length ps
  pub sum : a.sum ≡ sum_of_points ps
  pub extremes : MatchOption a.extremes (ps ≡ []) (AreExtremesOf ps)

abbrev pub IsAggregateOf : List Fact → Aggregate → Type 0
IsAggregateOf fs a = IsAggregateOfPoints (points_of fs) a

-- ---- properties of every aggregate of points

-- at least one value, and count times min ≤ sum ≤ count times max
pub record IsSpread (count : ℕ) (sum : ℤ) (e : Extremes) : Type 0 where
  pub some : 0 < count
  pub at_least : (pos count *ℤ e.min) ≤ℤ sum
  pub at_most : sum ≤ℤ (pos count *ℤ e.max)

-- Every aggregate of points is sound. The converse fails, as for count 1, sum 3, min 1, max 5.
-- A sound aggregate without extremes is empty.
abbrev pub IsSound : Aggregate → Type 0
IsSound a = MatchOption a.extremes (a ≡ empty_aggregate) (IsSpread a.count a.sum)

-- a sound aggregate of at most 2^62 points
pub record IsCountable (a : Aggregate) : Type 0 where
  pub few : a.count ≤ 2 ^ 62
  pub sound : IsSound a
