-- A parsed statement: a query with its functions and its fill option.
-- (InfluxData 1.8, InfluxQL: the basic SELECT statement, functions, GROUP BY time intervals and fill().)
use Rattle.std.specs.Prelude.{ℤ, pos, int_le, List, [], ◌∷◌, map, Option, Some, None, if◌then◌else◌, codes, String, string_bytes}
use Rattle.std.specs.declared.cmp.Ordering.{Ordering}
use Rattle.std.specs.declared.cmp.Ordering.TheVariants as orders
use Rattle.ts_core.specs.facts.Facts.{Text, text_cmp}
use Rattle.ts_core.specs.declared.aggregates.bucket.Buckets.{Buckets}
use Rattle.ts_core.specs.declared.queries.fill.Fill.{Fill}
use Rattle.ts_core.specs.declared.queries.value.Function.{Function}
use Rattle.ts_core.specs.declared.queries.value.Function.TheVariants.{Count, Sum, Min, Max, First, Last, Mean}
use Rattle.ts_core.specs.queries.Queries as queries

-- name of a column without AS
abbrev pub function_name : Function → Text
function_name Count = codes "count"
function_name Sum = codes "sum"
function_name Min = codes "min"
function_name Max = codes "max"
function_name First = codes "first"
function_name Last = codes "last"
function_name Mean = codes "mean"

-- the buckets of this interval, if it is at least 1 nanosecond
abbrev pub of_interval : ℤ → Option Buckets
of_interval interval = if int_le (pos 1) interval then Some (record { interval = interval; offset = pos 0 }) else None

-- the buckets with another offset
abbrev pub moved : ℤ → Option Buckets → Option Buckets
moved offset None = None
moved offset (Some b) = Some (record b { offset = offset })

-- a function and a name
pub record Projection : Type 0 where
  pub function : Function
  pub name : Text

pub record Select : Type 0 where
  pub columns : List Projection
  pub fill : Fill
  pub query : queries.Query

abbrev pub texts : {A : Type 0} → List (String A) → List Text
texts {A} ss = map (λ (s : String A). string_bytes s) ss

-- inserts a text into texts in byte order, without duplicates
abbrev pub insert_by : Ordering → Text → Text → List Text → List Text → List Text
insert_by orders.Less new text rest inserted = new ∷ text ∷ rest
insert_by orders.Equal new text rest inserted = text ∷ rest
insert_by orders.Greater new text rest inserted = text ∷ inserted

abbrev pub inserted_text : Text → List Text → List Text
inserted_text new [] = new ∷ []
inserted_text new (text ∷ rest) = insert_by (text_cmp new text) new text rest (inserted_text new rest)
