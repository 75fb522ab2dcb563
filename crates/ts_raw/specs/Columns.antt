-- The points of a column: times with values, each time once.
-- (InfluxData 1.8, key concepts: point; frequently asked questions: duplicate points.)
use Rattle.std.specs.Prelude.{ℤ, List, filter, int_le, refl, Option}
use Rattle.std.specs.Ordering.{int_cmp, int_eq}
use Rattle.std.specs.FinMap as map
use Rattle.std.specs.Coded.{Coded, code_by, coded×, coded_ℤ, coded_option}
use Rattle.std.specs.List.{AllByRecursion}
use Rattle.ts_core.specs.facts.Facts.{is_within}
use Rattle.ts_core.specs.facts.Times.{IsTime}
use Rattle.ts_core.specs.aggregates.Buckets.{bucket_of}

-- a map from times to values
abbrev pub PointMap : Type 0
PointMap = map.FinMap int_cmp ℤ

-- each point has a valid time
abbrev pub AreTimed : List (ℤ × ℤ) → Type 0
AreTimed points = AllByRecursion (λ (p : ℤ × ℤ). IsTime p.0) points

-- the points from a, inclusive, to b, exclusive, ordered by time
abbrev pub points_within : PointMap → ℤ → ℤ → List (ℤ × ℤ)
points_within points a b = filter (λ (p : ℤ × ℤ). is_within a b p.0) (map.entries points)

-- the points of the bucket with this index, ordered by time
abbrev pub points_in_bucket : PointMap → ℤ → ℤ → ℤ → List (ℤ × ℤ)
points_in_bucket points index interval offset =
    filter (λ (p : ℤ × ℤ). int_eq (bucket_of p.0 interval offset) index) (map.entries points)

-- the points at or after the mark
abbrev pub points_from : PointMap → ℤ → PointMap
points_from points mark = map.retain_keys points (int_le mark)

-- a column: its points, and the staged point, if there is one
pub record ColumnState : Type 0 where
  pub points : PointMap
  pub staged : Option (ℤ × ℤ)

abbrev pub coded_column_state : Coded ColumnState
coded_column_state =
    code_by (PointMap × Option (ℤ × ℤ)) (coded× (map.code coded_ℤ coded_ℤ) (coded_option (coded× coded_ℤ coded_ℤ)))
    (λ c. (c.points, c.staged)) (λ p. record { points = p.0; staged = p.1 }) (λ _. refl)
