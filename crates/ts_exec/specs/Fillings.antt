-- A filled answer with its query, and the content of its rows.
-- (InfluxData 1.8, InfluxQL: GROUP BY time intervals and fill(). Own rule: rows as they are iterated.)
use Rattle.std.specs.Prelude.{◌^◌, ℤ, pos, neg_ℤ, ◌+ℤ◌, ◌≤ℤ◌, FitsSigned, List, [], ◌∷◌, map, filter, Option, Some, None, if◌then◌else◌}
use Rattle.std.specs.Int.{w128}
use Rattle.std.specs.List.{AllByRecursion}
use Rattle.ts_core.specs.declared.queries.fill.Fill.{Fill}
use Rattle.ts_core.specs.declared.queries.fill.Fill.TheVariants.{Null as NullFill, None as NoneFill, Previous as PreviousFill, Number as NumberFill}
use Rattle.ts_core.specs.declared.queries.value.Function.{Function}
use Rattle.ts_core.specs.declared.queries.value.Value.{Value}
use Rattle.ts_core.specs.declared.queries.value.Value.TheVariants.{Null}
use Rattle.ts_core.specs.facts.Facts.{Text}
use Rattle.ts_core.specs.aggregates.Aggregates.{Aggregate}
use Rattle.ts_core.specs.queries.Answers.{Row}
use Rattle.ts_core.specs.queries.Fills.{FilledRow, FilledGroup, is_empty, has_data, last_data, value_of, number_value, filled_rows, filled}
use Rattle.ts_ql.specs.Selects.{Projection, Select}
use Rattle.ts_exec.specs.Answered.{Answered}
use Rattle.ts_exec.specs.declared.filled.RowContent.{RowContent}
use Rattle.ts_exec.specs.declared.filled.RowContent.TheVariants.{Data, Number, Nothing}

-- ---- answers

pub record FilledAnswer : Type 0 where
  pub select : Select
  pub groups : List FilledGroup

abbrev pub functions_of : List Projection → List Function
functions_of columns = map (λ (p : Projection). p.function) columns

-- an answer with its empty buckets filled
abbrev pub filled_answer : Fill → Answered → FilledAnswer
filled_answer fill a = record { select = a.select; groups = filled fill (functions_of a.select.columns) a.groups }

-- ---- rows

-- rows of consecutive buckets; the first begins at `start`
abbrev pub rows_at : ℤ → ℤ → List Aggregate → List Row
rows_at interval start [] = []
rows_at interval start (a ∷ more) = record { start = start; aggregate = a } ∷ rows_at interval (start +ℤ interval) more

-- the end of each bucket fits in 128 bits
abbrev pub EndsFit : ℤ → List Row → Type 0
EndsFit interval rows = AllByRecursion (λ (r : Row). FitsSigned w128 (r.start +ℤ interval)) rows

-- buckets of this interval from `start` on are close to the valid times
pub record AreNear (start interval : ℤ) : Type 0 where
  pub least : neg_ℤ (pos (2 ^ 64)) ≤ℤ start
  pub most : start ≤ℤ pos (2 ^ 63)
  pub forward : pos 0 ≤ℤ interval

-- a group with such rows, filled
abbrev pub group_at : Fill → List Function → ℤ → ℤ → List Text × List Aggregate → FilledGroup
group_at fill fs interval start g = record { values = g.0; rows = filled_rows fill fs (rows_at interval start g.1) }

-- ---- values

abbrev pub content_value : RowContent → Function → Value
content_value (Data a) f = value_of a f
content_value (Number n) f = number_value n f
content_value Nothing f = Null

abbrev pub content_row : RowContent → List Function → ℤ → FilledRow
content_row s fs start = record { start = start; values = map (content_value s) fs }

-- content of a row with data `own`; `latest` is the last data up to this row
abbrev pub row_content : Fill → Option Aggregate → Aggregate → RowContent
row_content NullFill latest own = Data own
row_content NoneFill latest own = Data own
row_content PreviousFill None own = Nothing
row_content PreviousFill (Some a) own = Data a
row_content (NumberFill n) latest own = if is_empty own then Number n else Data own

-- ---- iteration over rows

-- the rows that the fill option shows
abbrev pub content_rows : Fill → List Row → List Row
content_rows NullFill rows = rows
content_rows NoneFill rows = filter has_data rows
content_rows PreviousFill rows = rows
content_rows (NumberFill n) rows = rows

-- the rows, filled; `earlier` is the last data before the first
abbrev pub rows_following : Fill → List Function → Option Aggregate → List Row → List FilledRow
rows_following fill fs earlier [] = []
rows_following fill fs earlier (r ∷ rows) = content_row (row_content fill (last_data earlier r) r.aggregate) fs r.start
    ∷ rows_following fill fs (last_data earlier r) rows
