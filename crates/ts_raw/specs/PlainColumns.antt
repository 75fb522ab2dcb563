-- Points as a list sorted by time. (Own rule.)
use Rattle.std.specs.Prelude.{◌≡◌, ℕ, ℤ, T, List, Option, Result, IsSome, MatchResult, ◌<◌, int_lt, true, false}
use Rattle.std.specs.declared.cmp.Ordering.TheVariants.{Less, Equal, Greater}
use Rattle.std.specs.Ordering.{int_cmp}
use Rattle.std.specs.List.{HoldsAt}
use Rattle.std.specs.List.Sorted.{IsPartitionPoint}
use Rattle.std.specs.FinMap.{is_sorted}
use Rattle.ts_raw.specs.Columns.{AreTimed}

-- times are strictly increasing
abbrev pub IsRising : List (ℤ × ℤ) → Type 0
IsRising points = T (is_sorted int_cmp points)

-- the times are strictly increasing and valid, and there is capacity for the staged point
pub record IsReady (points : List (ℤ × ℤ)) (len capacity : ℕ) (staged : Option (ℤ × ℤ)) : Type 0 where
  pub rising : IsRising points
  pub timed : AreTimed points
  pub spare : IsSome staged → len < capacity

-- the index of the point at t, or the index to insert it at
abbrev pub IsIndexOf : ℤ → List (ℤ × ℤ) → Result ℕ ℕ → Type 0
IsIndexOf t points index =
    MatchResult index (HoldsAt (λ (p : ℤ × ℤ). int_cmp p.0 t ≡ Equal) points)
    (IsPartitionPoint (λ (p : ℤ × ℤ). int_cmp p.0 t ≡ Less) (λ (p : ℤ × ℤ). int_cmp p.0 t ≡ Greater) points)

-- exactly the first i points are before t
abbrev pub IsStartOf : ℤ → List (ℤ × ℤ) → ℕ → Type 0
IsStartOf t points i =
    IsPartitionPoint (λ (p : ℤ × ℤ). int_lt p.0 t ≡ true) (λ (p : ℤ × ℤ). int_lt p.0 t ≡ false) points i
