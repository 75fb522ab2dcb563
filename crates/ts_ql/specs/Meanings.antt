-- Meanings of trees.
-- (InfluxData 1.8, InfluxQL: SELECT, AS, FROM, WHERE, time syntax, GROUP BY time intervals and tags, fill(). Own rule:
-- sums are exact.)
use Rattle.std.specs.Prelude.{ℕ, ℤ, pos, ◌+ℤ◌, ◌-ℤ◌, List, [], ◌∷◌, ◌++◌, Bool, true, false, Option, Some, None, Result}
use Rattle.std.specs.Option.{unwrap_or}
use Rattle.ts_core.specs.facts.Facts.{Text}
use Rattle.ts_core.specs.queries.Queries.{Condition}
use Rattle.ts_core.specs.declared.queries.fill.Fill.{Fill}
use Rattle.ts_core.specs.declared.queries.fill.Fill.TheVariants as fills
use Rattle.ts_core.specs.declared.queries.value.Function.{Function}
use Rattle.ts_core.specs.declared.queries.value.Function.TheVariants as functions
use Rattle.ts_core.specs.declared.aggregates.bucket.Buckets.{Buckets}
use Rattle.ts_ql.specs.declared.moment.Range.{Range}
use Rattle.ts_ql.specs.Dates.{timestamp_of}
use Rattle.ts_ql.specs.QueryFaults.{Fault}
use Rattle.ts_ql.specs.Grammar.{Call, FromClause, Measurement, Subquery, Base, Number, Negative, Quoted, Now, Change, Instant, Cond, Compare, Match, Group, And, Signed, Dimension, Every, ByTag, GroupBy, FillOption, NullOption, NoneOption, PreviousOption, NumberOption, Statement, Ending, Stop, RightParen, Next, Script}
use Rattle.ts_ql.specs.Ranges.{bounded, unbounded}
use Rattle.ts_ql.specs.Literals.{literal}
use Rattle.ts_ql.specs.Selects.{Projection, Select, function_name, inserted_text, of_interval, moved}
use Rattle.ts_ql.specs.Statements.{Meaning, statement_query}
use Rattle.ts_ql.specs.Tokens.{Lexeme}
use Rattle.ts_ql.specs.Keywords.{function_called, named}

-- the meaning of an empty statement
abbrev pub no_meaning : Meaning
no_meaning = record {
  columns = [];
  field = None;
  measurement = [];
  conditions = [];
  range = unbounded;
  buckets = None;
  tags = [];
  fill = fills.Null;
}

-- ---- SELECT and FROM

abbrev pub function_of : Lexeme → Function
function_of l = unwrap_or (function_called l.text) functions.Count

-- a column is named by AS, or else by its function
abbrev pub projection_of : Function → Option Lexeme → Projection
projection_of f None = record { function = f; name = function_name f }
projection_of f (Some alias) = record { function = f; name = named alias }

-- the field of all functions is that of the first
abbrev pub field_after : Option Text → Lexeme → Option Text
field_after None l = Some (named l)
field_after (Some field) l = Some field

abbrev pub after_call : Meaning → Call → Meaning
after_call p a = record p {
  field = field_after p.field a.field;
  columns = p.columns
      ++ projection_of (function_of a.function) a.alias ∷ [];
}

abbrev pub after_calls : Meaning → List Call → Meaning
after_calls p [] = p
after_calls p (a ∷ more) = after_calls (after_call p a) more

abbrev pub measured : FromClause → Text
measured (Measurement l) = named l
measured (Subquery l) = []

abbrev pub after_from : Meaning → FromClause → Meaning
after_from p source = record p { measurement = measured source }

-- ---- time expressions

-- offset of a time expression
abbrev pub base_start : Base → ℕ
base_start (Number m l) = l.start
base_start (Negative minus m l) = minus.start
base_start (Quoted l) = l.start
base_start (Now l) = l.start

abbrev pub base_value : ℤ → Base → Option ℤ
base_value now (Number m l) = literal false l.text
base_value now (Negative minus m l) = literal true l.text
base_value now (Quoted l) = timestamp_of l.text
base_value now (Now l) = Some now

abbrev pub changed_by : Bool → ℤ → ℤ → ℤ
changed_by true total value = total -ℤ value
changed_by false total value = total +ℤ value

abbrev pub total_after : ℤ → Change → ℤ
total_after total c = changed_by c.less total (unwrap_or (literal false c.by.text) (pos 0))

abbrev pub changed_all : ℤ → List Change → ℤ
changed_all total [] = total
changed_all total (c ∷ cs) = changed_all (total_after total c) cs

-- value of a time expression, in nanoseconds of the Unix epoch
abbrev pub instant_value : ℤ → Instant → ℤ
instant_value now i = changed_all (unwrap_or (base_value now i.base) (pos 0)) i.changes

-- ---- WHERE: all conditions must hold, so parentheses mean nothing

abbrev pub conditions_after : List Condition → Cond → List Condition
conditions_after before (Compare l c i) = before
conditions_after before (Match tag cast negated value) =
    before ++ record { tag = named tag; value = named value; negated = negated } ∷ []
conditions_after before (Group opener c) = conditions_after before c
conditions_after before (And a b) = conditions_after (conditions_after before a) b

-- the greatest lower bound and the least upper bound
abbrev pub range_after : ℤ → Range → Cond → Range
range_after now r (Compare l c i) = bounded c (instant_value now i) r
range_after now r (Match tag cast negated value) = r
range_after now r (Group opener c) = range_after now r c
range_after now r (And a b) = range_after now (range_after now r a) b

abbrev pub after_cond : ℤ → Meaning → Cond → Meaning
after_cond now p c = record p { conditions = conditions_after p.conditions c; range = range_after now p.range c }

abbrev pub after_filter : ℤ → Meaning → Option Cond → Meaning
after_filter now p None = p
after_filter now p (Some c) = after_cond now p c

-- ---- GROUP BY and FILL

abbrev pub start_or : Option Lexeme → Lexeme → ℕ
start_or None l = l.start
start_or (Some minus) l = minus.start

abbrev pub value_after : Option Lexeme → Lexeme → Option ℤ
value_after None l = literal false l.text
value_after (Some minus) l = literal true l.text

abbrev pub signed_start : Signed → ℕ
signed_start s = start_or s.minus s.number

abbrev pub signed_value : Signed → Option ℤ
signed_value s = value_after s.minus s.number

abbrev pub buckets_of : Option ℤ → Option Buckets
buckets_of None = None
buckets_of (Some interval) = of_interval interval

abbrev pub offset_by : Option Buckets → Option Signed → Option Buckets
offset_by b None = b
offset_by b (Some s) = moved (unwrap_or (signed_value s) (pos 0)) b

-- tags are sorted in byte order, without duplicates
abbrev pub after_dimension : Meaning → Dimension → Meaning
after_dimension p (Every time interval offset) =
    record p { buckets = offset_by (buckets_of (literal false interval.text)) offset }
after_dimension p (ByTag tag cast) = record p { tags = inserted_text (named tag) p.tags }

abbrev pub after_dimensions : Meaning → List Dimension → Meaning
after_dimensions p [] = p
after_dimensions p (d ∷ ds) = after_dimensions (after_dimension p d) ds

abbrev pub after_group : Meaning → Option GroupBy → Meaning
after_group p None = p
after_group p (Some g) = after_dimensions (after_dimension p g.first) g.more

abbrev pub fill_of : FillOption → Fill
fill_of NullOption = fills.Null
fill_of NoneOption = fills.None
fill_of PreviousOption = fills.Previous
fill_of (NumberOption s) = fills.Number (unwrap_or (signed_value s) (pos 0))

abbrev pub after_fill : Meaning → Option FillOption → Meaning
after_fill p None = p
after_fill p (Some option) = record p { fill = fill_of option }

-- ---- statements

abbrev pub statement_meaning : ℤ → Statement → Meaning
statement_meaning now s =
    after_fill (after_group (after_filter now
    (after_from (after_calls (after_call no_meaning s.first) s.more) s.source) s.filter) s.group) s.fill

-- results of a statement with this meaning and of those after it
abbrev pub ending_queries : ℤ → ℕ → Meaning → Ending → List (Result Select Fault)
ending_queries now start p Stop = statement_query start now p ∷ []
ending_queries now start p RightParen = statement_query start now p ∷ []
ending_queries now start p (Next s rest) =
    statement_query start now p ∷ ending_queries now s.select.start (statement_meaning now s) rest

abbrev pub script_queries : ℤ → Script → List (Result Select Fault)
script_queries now script =
    ending_queries now script.first.select.start (statement_meaning now script.first) script.rest
