-- Points that are skipped as a whole, with their aggregate. (Own rule.)
use Rattle.std.specs.Prelude.{◌≡◌, ◌<◌, ℤ, true, List, ◌++◌, length, Option, Some, None}
use Rattle.std.specs.List.{AllByRecursion}
use Rattle.ts_core.specs.facts.Facts.{is_within}
use Rattle.ts_core.specs.aggregates.Aggregates.{Aggregate, aggregate_of_points}

-- some points at the front, all from low, inclusive, to high, exclusive, are skipped, and this is their aggregate
pub record IsFront (low high : ℤ) (before after : List (ℤ × ℤ)) (a : Aggregate) : Type 0 where
  pub block : List (ℤ × ℤ)
  pub some : 0 < length block
  pub split : before ≡ block ++ after
  pub within : AllByRecursion (λ (p : ℤ × ℤ). is_within low high p.0 ≡ true) block
  pub summary : a ≡ aggregate_of_points block

-- so it is, or no point is skipped
abbrev pub IsSummary : ℤ → ℤ → List (ℤ × ℤ) → Option Aggregate → List (ℤ × ℤ) → Type 0
IsSummary low high before None after = after ≡ before
IsSummary low high before (Some a) after = IsFront low high before after a
