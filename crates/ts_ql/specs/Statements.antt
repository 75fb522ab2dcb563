-- The query of a complete statement.
-- (InfluxData 1.8, InfluxQL: time syntax, GROUP BY time intervals. Own rules: a lower bound, at most 10,000 buckets.)
use Rattle.std.specs.Prelude.{ℕ, ℤ, pos, ◌+ℤ◌, ◌-ℤ◌, int_le, int_lt, List, [], ◌∷◌, Bool, false, ◌||◌, Option, Some, None, Result, Ok, Err, if◌then◌else◌, codes, bytes_eq}
use Rattle.std.specs.Int.{int_max}
use Rattle.std.specs.Option.{unwrap_or}
use Rattle.std.specs.List.{list_any}
use Rattle.ts_core.specs.aggregates.Buckets.{bucket_of, bucket_start}
use Rattle.ts_core.specs.declared.queries.fill.Fill.{Fill}
use Rattle.ts_core.specs.facts.Facts.{Text}
use Rattle.ts_core.specs.queries.Queries.{Condition}
use Rattle.ts_core.specs.facts.Times.{least_time}
use Rattle.ts_core.specs.declared.aggregates.bucket.Buckets.{Buckets}
use Rattle.ts_ql.specs.declared.moment.Range.{Range}
use Rattle.ts_ql.specs.declared.query.Span.{Span}
use Rattle.ts_ql.specs.QueryFaults.{Fault, OutOfProfile, NoLowerBound, RepeatedColumn, TooManyBuckets, BucketBeforeLeastTime}
use Rattle.ts_ql.specs.Selects.{Projection, Select}

-- some column has this name
abbrev pub has_column : Text → List Projection → Bool
has_column name columns = list_any (λ (c : Projection). bytes_eq c.name name) columns

-- two columns have the same name, or one is named `time`
abbrev pub repeats : List Projection → Bool
repeats [] = false
repeats (c ∷ cs) = bytes_eq c.name (codes "time") || has_column c.name cs || repeats cs

-- the meaning of a statement, or of its beginning
pub record Meaning : Type 0 where
  pub columns : List Projection
  pub field : Option Text
  pub measurement : Text
  pub conditions : List Condition
  pub range : Range
  pub buckets : Option Buckets
  pub tags : List Text
  pub fill : Fill

-- a range without an upper bound ends after `now`; no range ends before it begins
abbrev pub range_end : ℤ → ℤ → Option ℤ → ℤ
range_end now from None = int_max from (now +ℤ pos 1)
range_end now from (Some upper) = int_max from upper

abbrev pub first_start : ℤ → Buckets → ℤ
first_start from b = bucket_start (bucket_of from b.interval b.offset) b.interval b.offset

-- index of the last bucket minus index of the first
abbrev pub buckets_between : ℤ → ℤ → Buckets → ℤ
buckets_between from to b = bucket_of (to -ℤ pos 1) b.interval b.offset -ℤ bucket_of from b.interval b.offset

abbrev pub query_of : Meaning → Buckets → Span → Select
query_of p b span = record {
  columns = p.columns;
  fill = p.fill;
  query = record {
    measurement = p.measurement;
    field = unwrap_or p.field [];
    conditions = p.conditions;
    from = span.from;
    to = span.to;
    interval = b.interval;
    offset = b.offset;
    group_tags = p.tags;
  };
}

-- the range, which starts at the lower bound; without one there is no range
abbrev pub span_from : ℤ → Range → Option ℤ → Option Span
span_from now r None = None
span_from now r (Some from) = Some (record { from = from; to = range_end now from r.upper })

-- in a non-empty range, the first bucket starts at a valid time, and there are at most 10,000 buckets
unfoldable pub span_fault : ℕ → Buckets → Span → Option Fault
span_fault start b span =
    if int_le span.to span.from then None
    else if int_lt (first_start span.from b) least_time then Some (BucketBeforeLeastTime start)
    else if int_le (pos 10000) (buckets_between span.from span.to b) then Some (TooManyBuckets start) else None

abbrev pub query_unless : Select → Option Fault → Result Select Fault
query_unless q None = Ok q
query_unless q (Some fault) = Err fault

abbrev pub with_span : ℕ → Meaning → Buckets → Option Span → Result Select Fault
with_span start p b None = Err (NoLowerBound start)
with_span start p b (Some span) = query_unless (query_of p b span) (span_fault start b span)

abbrev pub with_time : ℕ → ℤ → Meaning → Option Buckets → Result Select Fault
with_time start now p None = Err (OutOfProfile start (codes "GROUP BY time"))
with_time start now p (Some b) = with_span start p b (span_from now p.range p.range.lower)

-- the query of the statement at offset `start`
unfoldable pub statement_query : ℕ → ℤ → Meaning → Result Select Fault
statement_query start now p = if repeats p.columns then Err (RepeatedColumn start) else with_time start now p p.buckets
