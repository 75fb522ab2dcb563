-- The time range that comparisons leave.
-- (InfluxData 1.8, InfluxQL: time syntax. Own rule: the greatest lower bound and the least upper one count.)
use Rattle.std.specs.Prelude.{ℤ, pos, ◌+ℤ◌, int_le, Option, Some, None, if◌then◌else◌}
use Rattle.ts_ql.specs.declared.moment.Comparison.{Comparison}
use Rattle.ts_ql.specs.declared.moment.Comparison.TheVariants as comparisons
use Rattle.ts_ql.specs.declared.moment.Range.{Range}

abbrev pub unbounded : Range
unbounded = record { lower = None; upper = None }

abbrev pub greatest_lower : ℤ → Option ℤ → ℤ
greatest_lower x None = x
greatest_lower x (Some y) = if int_le x y then y else x

abbrev pub least_upper : ℤ → Option ℤ → ℤ
least_upper x None = x
least_upper x (Some y) = if int_le y x then y else x

-- from x on
abbrev pub from_on : ℤ → Range → Range
from_on x r = record r { lower = Some (greatest_lower x r.lower) }

-- before x
abbrev pub before : ℤ → Range → Range
before x r = record r { upper = Some (least_upper x r.upper) }

-- the range narrowed by a comparison of time with x
unfoldable pub bounded : Comparison → ℤ → Range → Range
bounded comparisons.Equal x r = before (x +ℤ pos 1) (from_on x r)
bounded comparisons.Less x r = before x r
bounded comparisons.LessOrEqual x r = before (x +ℤ pos 1) r
bounded comparisons.Greater x r = from_on (x +ℤ pos 1) r
bounded comparisons.GreaterOrEqual x r = from_on x r
