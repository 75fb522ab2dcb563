-- Effect of each token in GROUP BY and FILL.
-- (InfluxData 1.8, InfluxQL: the GROUP BY clause, GROUP BY time intervals, the offset interval, fill().)
use Rattle.std.specs.Prelude.{ℕ, ℤ, pos, ◌≤ℤ◌, int_le, List, [], true, false, Option, Some, None, IfSome, Result, Ok, Err, if◌then◌else◌, codes}
use Rattle.ts_core.specs.facts.Facts.{Text}
use Rattle.ts_core.specs.declared.queries.fill.Fill.{Fill}
use Rattle.ts_core.specs.declared.queries.fill.Fill.TheVariants as fills
use Rattle.ts_core.specs.declared.aggregates.bucket.Buckets.{Buckets}
use Rattle.ts_ql.specs.Selects.{inserted_text, of_interval, moved}
use Rattle.ts_ql.specs.declared.filling.FillClause.{FillClause}
use Rattle.ts_ql.specs.declared.state.State.{State}
use Rattle.ts_ql.specs.declared.state.State.TheVariants as states
use Rattle.ts_ql.specs.declared.token.Kind.{Kind}
use Rattle.ts_ql.specs.declared.token.Kind.TheVariants as kinds
use Rattle.ts_ql.specs.QueryFaults.{Fault, OutOfRange, unexpected}
use Rattle.ts_ql.specs.Literals.{is_word, literal, text_spelled}
use Rattle.ts_ql.specs.Tokens.{Lexeme}
use Rattle.ts_ql.specs.Keywords.{is_time_column}

-- state of the clause: the buckets, the text offset of the bucket offset's first token, and the sorted set of tags
pub record Grouped : Type 0 where
  pub buckets : Option Buckets
  pub first : ℕ
  pub tags : List Text

-- an interval is at least 1 nanosecond
abbrev pub HasInterval : Option Buckets → Type 0
HasInterval buckets = IfSome buckets (λ b. pos 1 ≤ℤ b.interval)

abbrev pub empty_groups : Grouped
empty_groups = record { buckets = None; first = 0; tags = [] }

abbrev pub Grouping : Type 0
Grouping = Result (State × Grouped) Fault

-- a `time` that begins an item; there can't be a second time(..)
abbrev pub time_item : Lexeme → Grouped → Option Buckets → Grouping
time_item t g None = Ok (states.TimeOpen, g)
time_item t g (Some buckets) = Err (unexpected t)

abbrev pub item_at : Lexeme → Grouped → Grouping
item_at t g =
    if is_time_column t.kind t.text then time_item t g g.buckets
    else Ok (states.AfterTag, record g { tags = inserted_text (text_spelled t.text) g.tags })

abbrev pub with_interval : Lexeme → Grouped → Option ℤ → Grouping
with_interval t g None = Err (OutOfRange t.start)
with_interval t g (Some interval) =
    if int_le (pos 1) interval
    then Ok (states.IntervalEnd, record g { buckets = of_interval interval }) else Err (OutOfRange t.start)

-- a bucket offset whose first token is at `first`
abbrev pub with_offset : ℕ → Grouped → Option ℤ → Grouping
with_offset first g None = Err (OutOfRange first)
with_offset first g (Some offset) = Ok (states.OffsetEnd, record g { buckets = moved offset g.buckets })

abbrev pub grouping_at : State → Kind → Lexeme → Grouped → Grouping
grouping_at states.GroupBy kinds.Keyword t g =
    if is_word (codes "by") t.text then Ok (states.Item, g) else Err (unexpected t)
grouping_at states.Item kinds.Word t g = item_at t g
grouping_at states.Item kinds.QuotedName t g = item_at t g
grouping_at states.TimeOpen kinds.LeftParen t g = Ok (states.Interval, g)
grouping_at states.Interval kinds.Duration t g = with_interval t g (literal false t.text)
grouping_at states.IntervalEnd kinds.Comma t g = Ok (states.Offset, g)
grouping_at states.IntervalEnd kinds.RightParen t g = Ok (states.AfterItem, g)
grouping_at states.Offset kinds.Minus t g = Ok (states.OffsetMinus, record g { first = t.start })
grouping_at states.Offset kinds.Duration t g = with_offset t.start g (literal false t.text)
grouping_at states.OffsetMinus kinds.Duration t g = with_offset g.first g (literal true t.text)
grouping_at states.OffsetEnd kinds.RightParen t g = Ok (states.AfterItem, g)
grouping_at states.AfterTag kinds.DoubleColon t g = Ok (states.GroupTagType, g)
grouping_at states.AfterTag kinds.Comma t g = Ok (states.Item, g)
grouping_at states.GroupTagType kinds.Word t g =
    if is_word (codes "tag") t.text then Ok (states.AfterItem, g) else Err (unexpected t)
grouping_at states.AfterItem kinds.Comma t g = Ok (states.Item, g)
grouping_at state kind t g = Err (unexpected t)

unfoldable pub group_step : State → Lexeme → Grouped → Grouping
group_step state t g = grouping_at state t.kind t g

-- ---- fill

abbrev pub FillStep : Type 0
FillStep = Result (State × FillClause) Fault

-- fill with a number whose first token is at `first`
abbrev pub with_number : ℕ → FillClause → Option ℤ → FillStep
with_number first f None = Err (OutOfRange first)
with_number first f (Some n) = Ok (states.FillClose, record f { fill = fills.Number n })

abbrev pub chosen : Fill → FillClause → FillStep
chosen fill f = Ok (states.FillClose, record f { fill = fill })

abbrev pub fill_at : State → Kind → Lexeme → FillClause → FillStep
fill_at states.FillOpen kinds.LeftParen t f = Ok (states.FillOption, f)
fill_at states.FillOption kinds.Word t f =
    if is_word (codes "null") t.text then chosen fills.Null f
    else if is_word (codes "none") t.text then chosen fills.None f
    else if is_word (codes "previous") t.text then chosen fills.Previous f
    else Err (unexpected t)
fill_at states.FillOption kinds.Minus t f = Ok (states.FillMinus, record f { first = t.start })
fill_at states.FillOption kinds.Integer t f = with_number t.start f (literal false t.text)
fill_at states.FillMinus kinds.Integer t f = with_number f.first f (literal true t.text)
fill_at states.FillClose kinds.RightParen t f = Ok (states.AfterFill, f)
fill_at state kind t f = Err (unexpected t)

unfoldable pub fill_step : State → Lexeme → FillClause → FillStep
fill_step state t f = fill_at state t.kind t f

-- the default: null
abbrev pub no_fill : FillClause
no_fill = record { fill = fills.Null; first = 0 }
