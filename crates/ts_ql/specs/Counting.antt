-- The query that counts the values of a field in one bucket.
-- (InfluxData 1.8, InfluxQL functions: COUNT(). Own rule: the range is the bucket.)
use Rattle.std.specs.Prelude.{◌≡◌, ℤ, pos, ◌-ℤ◌, ◌≤ℤ◌, [], ◌∷◌, Result, Ok, Err}
use Rattle.ts_core.specs.facts.Facts.{Text}
use Rattle.ts_core.specs.declared.queries.fill.Fill.TheVariants as fills
use Rattle.ts_core.specs.declared.queries.value.Function.TheVariants as functions
use Rattle.ts_ql.specs.declared.fault.ParseError.{ParseError}
use Rattle.ts_ql.specs.declared.fault.ParseError.TheVariants as errors
use Rattle.ts_ql.specs.QueryFaults.{OutOfRange, as_fault}
use Rattle.ts_ql.specs.Selects.{Select, function_name}

-- COUNT(field) over the one bucket from a, inclusive, to b, exclusive
abbrev pub count_select : Text → Text → ℤ → ℤ → Select
count_select measurement field a b = record {
  columns = record { function = functions.Count; name = function_name functions.Count } ∷ [];
  fill = fills.Null;
  query = record {
    measurement = measurement;
    field = field;
    conditions = [];
    from = a;
    to = b;
    interval = b -ℤ a;
    offset = a;
    group_tags = [];
  };
}

-- an interval has at most 2^63 - 1 nanoseconds
abbrev pub IsInterval : ℤ → Type 0
IsInterval i = i ≤ℤ pos 9223372036854775807

-- this query; or `OutOfRange`, exactly if the range is too long for an interval, decided before anything is allocated
abbrev pub IsCountQuery : Text → Text → ℤ → ℤ → Result Select ParseError → Type 0
IsCountQuery measurement field a b (Ok query) = (query ≡ count_select measurement field a b) × IsInterval (b -ℤ a)
IsCountQuery measurement field a b (Err (errors.Fault fault)) =
    (as_fault fault ≡ OutOfRange 0) × (IsInterval (b -ℤ a) → ⊥)
IsCountQuery measurement field a b (Err errors.OutOfMemory) = IsInterval (b -ℤ a)
