-- The values that a query selects of an answer. (InfluxData 1.8, InfluxQL functions. Own rule: a part that no function
-- of the query needs isn't computed.)
use Rattle.std.specs.Prelude.{◌≡◌, Bool, true, false, List}
use Rattle.ts_core.specs.declared.queries.fill.Fill.{Fill}
use Rattle.ts_core.specs.declared.queries.value.Function.{Function}
use Rattle.ts_core.specs.declared.queries.value.Function.TheVariants.{Count, Sum, Min, Max, First, Last, Mean}
use Rattle.ts_core.specs.queries.Answers.{Group}
use Rattle.ts_core.specs.queries.Fills.{filled}
use Rattle.ts_exec.specs.declared.aggregate_parts.AggregateParts.{AggregateParts}
use Rattle.ts_exec.specs.declared.aggregate_parts.AggregateParts.TheVariants.{CountAlone, CountAndSum, Bounds, Whole}

-- the value of the function needs only the parts that are kept
abbrev pub suffice : AggregateParts → Function → Bool
suffice CountAlone Count = true
suffice CountAlone Sum = false
suffice CountAlone Min = false
suffice CountAlone Max = false
suffice CountAlone First = false
suffice CountAlone Last = false
suffice CountAlone Mean = false
suffice CountAndSum Count = true
suffice CountAndSum Sum = true
suffice CountAndSum Min = false
suffice CountAndSum Max = false
suffice CountAndSum First = false
suffice CountAndSum Last = false
suffice CountAndSum Mean = true
suffice Bounds Count = true
suffice Bounds Sum = true
suffice Bounds Min = true
suffice Bounds Max = true
suffice Bounds First = false
suffice Bounds Last = false
suffice Bounds Mean = true
suffice Whole f = true

-- two answers have the same values of these functions, with any fill option
abbrev pub HaveSameValues : List Function → List Group → List Group → Type 0
HaveSameValues fs xs ys = (fill : Fill) → filled fill fs xs ≡ filled fill fs ys
