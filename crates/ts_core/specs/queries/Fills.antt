-- The values of an answer: one per function, and fill values for buckets without data.
-- (InfluxData 1.8, InfluxQL: GROUP BY time intervals and fill(); InfluxQL functions: COUNT() and fill(). Own rules:
-- COUNT stays 0 under fill(null), and is null before the first data under fill(previous); means are fractions; there is
-- no fill(linear).)
use Rattle.std.specs.Prelude.{◌==◌, ℤ, pos, Bool, not, List, [], ◌∷◌, map, filter, Option, Some, None, if◌then◌else◌}
use Rattle.ts_core.specs.declared.aggregates.aggregate.Extremes.{Extremes}
use Rattle.ts_core.specs.declared.queries.value.Function.{Function}
use Rattle.ts_core.specs.declared.queries.value.Function.TheVariants.{Count, Sum, Min, Max, First, Last, Mean}
use Rattle.ts_core.specs.declared.queries.value.Value.{Value}
use Rattle.ts_core.specs.declared.queries.value.Value.TheVariants.{Null, Number, Fraction}
use Rattle.ts_core.specs.declared.queries.fill.Fill.{Fill}
use Rattle.ts_core.specs.declared.queries.fill.Fill.TheVariants.{Null as NullFill, None as NoneFill, Previous as PreviousFill, Number as NumberFill}
use Rattle.ts_core.specs.facts.Facts.{Text}
use Rattle.ts_core.specs.aggregates.Aggregates.{Aggregate}
use Rattle.ts_core.specs.aggregates.Ratios.{mean_of}
use Rattle.ts_core.specs.queries.Answers.{Row, Group}

-- ---- values

abbrev pub is_empty : Aggregate → Bool
is_empty a = a.count == 0

-- null without data
abbrev pub unless_empty : Aggregate → Value → Value
unless_empty a v = if is_empty a then Null else v

abbrev pub extreme_value : (Extremes → ℤ) → Option Extremes → Value
extreme_value part None = Null
extreme_value part (Some e) = Number (part e)

-- the value of a function; without data it is null, or 0 for COUNT
abbrev pub value_of : Aggregate → Function → Value
value_of a Count = Number (pos a.count)
value_of a Sum = unless_empty a (Number a.sum)
value_of a Min = extreme_value (λ (e : Extremes). e.min) a.extremes
value_of a Max = extreme_value (λ (e : Extremes). e.max) a.extremes
value_of a First = extreme_value (λ (e : Extremes). e.first.1) a.extremes
value_of a Last = extreme_value (λ (e : Extremes). e.last.1) a.extremes
value_of a Mean = unless_empty a (Fraction (mean_of a))

-- the fill number N, as N/1 for MEAN
abbrev pub number_value : ℤ → Function → Value
number_value n Mean = Fraction (record { numerator = n; denominator = 1 })
number_value n f = Number n

-- ---- rows

pub record FilledRow : Type 0 where
  pub start : ℤ
  pub values : List Value

pub record FilledGroup : Type 0 where
  pub values : List Text
  pub rows : List FilledRow

abbrev pub has_data : Row → Bool
has_data r = not (is_empty r.aggregate)

abbrev pub shown : List Function → Row → FilledRow
shown fs r = record { start = r.start; values = map (value_of r.aggregate) fs }

abbrev pub numbered : List Function → ℤ → Row → FilledRow
numbered fs n r = if has_data r then shown fs r else record { start = r.start; values = map (number_value n) fs }

-- the row of a bucket with the values of an aggregate, or nulls
abbrev pub repeated : List Function → Option Aggregate → ℤ → FilledRow
repeated fs None start = record { start = start; values = map (λ (f : Function). Null) fs }
repeated fs (Some a) start = record { start = start; values = map (value_of a) fs }

-- the last data up to this row
abbrev pub last_data : Option Aggregate → Row → Option Aggregate
last_data earlier r = if has_data r then Some r.aggregate else earlier

-- each row with the values of the last data up to it
abbrev pub with_previous : List Function → Option Aggregate → List Row → List FilledRow
with_previous fs earlier [] = []
with_previous fs earlier (r ∷ rs) =
    repeated fs (last_data earlier r) r.start ∷ with_previous fs (last_data earlier r) rs

abbrev pub filled_rows : Fill → List Function → List Row → List FilledRow
filled_rows NullFill fs rows = map (shown fs) rows
filled_rows NoneFill fs rows = map (shown fs) (filter has_data rows)
filled_rows PreviousFill fs rows = with_previous fs None rows
filled_rows (NumberFill n) fs rows = map (numbered fs n) rows

abbrev pub filled_group : Fill → List Function → Group → FilledGroup
filled_group fill fs g = record { values = g.values; rows = filled_rows fill fs g.rows }

abbrev pub filled : Fill → List Function → List Group → List FilledGroup
filled fill fs groups = map (filled_group fill fs) groups
