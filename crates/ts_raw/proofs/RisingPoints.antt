-- Points in the order of time, after some of them are taken from the front.
use Rattle.std.proofs.Common.{◌≡◌, ◌<◌, ◌+◌, ◌^◌, ℤ, List, ◌++◌, length, length-append, append_assoc, Option, Some, None, ap, subst, sym, ◌∙◌, arith}
use Rattle.std.proofs.lemmas.List.{take-append-le, take_all}
use Rattle.ts_core.specs.aggregates.Aggregates.{Aggregate}
use Rattle.ts_raw.specs.PlainColumns.{IsRising}
use Rattle.ts_raw.specs.Summaries.{IsSummary}
use Rattle.ts_raw.proofs.ColumnBlocks.{rising_rest}
use Rattle.ts_raw.proofs.RewriteLemmas.{rising_first}

pub rising_front : (ps qs : List (ℤ × ℤ)) → IsRising (ps ++ qs) → IsRising ps
rising_front ps qs s = subst IsRising (take-append-le (length ps) ps qs (omega arith) ∙ take_all (length ps) ps (omega arith)) (rising_first (length ps) (ps ++ qs) s)

-- coded points before plain ones; some coded ones are taken
module _ (coded plain front left : List (ℤ × ℤ)) (split : coded ≡ front ++ left) (rising : IsRising (coded ++ plain)) where
  pub all_rising : IsRising (front ++ (left ++ plain))
  all_rising = subst IsRising (ap (λ (ps : List (ℤ × ℤ)). ps ++ plain) split ∙ append_assoc front left plain) rising

  pub points_left : length coded + length plain < 2 ^ 64 → (length left + length plain < 2 ^ 64) × IsRising (left ++ plain)
  points_left few = (
    let count = ap (λ (ps : List (ℤ × ℤ)). length ps) split ∙ length-append front left in omega arith,
    rising_rest front (left ++ plain) all_rising,
  )

-- so it is after points that are skipped
pub points_skipped : (low high : ℤ) (coded plain : List (ℤ × ℤ)) (r : Option Aggregate) (left : List (ℤ × ℤ)) → IsSummary low high coded r left → IsRising (coded ++ plain) → length coded + length plain < 2 ^ 64
    → (length left + length plain < 2 ^ 64) × IsRising (left ++ plain)
points_skipped low high coded plain None left same rising few =
    (subst (λ (ps : List (ℤ × ℤ)). length ps + length plain < 2 ^ 64) (sym same) few, subst (λ (ps : List (ℤ × ℤ)). IsRising (ps ++ plain)) (sym same) rising)
points_skipped low high coded plain (Some a) left front rising few = points_left coded plain front.block left front.split rising few
