-- Effect of each token in a time comparison, and the resulting range.
-- (InfluxData 1.8, InfluxQL: time syntax, absolute and relative time. Own rule: sums are exact.)
use Rattle.std.specs.Prelude.{ℕ, ℤ, pos, ◌+◌, ◌≤◌, ◌^◌, unsigned_abs, ◌+ℤ◌, ◌-ℤ◌, int_le, ◌&&◌, true, false, Option, Some, None, Result, Ok, Err, if◌then◌else◌, codes}
use Rattle.ts_core.specs.facts.Times.{least_time, greatest_time}
use Rattle.ts_ql.specs.declared.moment.Comparison.{Comparison}
use Rattle.ts_ql.specs.declared.moment.Comparison.TheVariants as comparisons
use Rattle.ts_ql.specs.declared.moment.Moment.{Moment}
use Rattle.ts_ql.specs.declared.moment.Range.{Range}
use Rattle.ts_ql.specs.declared.state.State.{State}
use Rattle.ts_ql.specs.declared.state.State.TheVariants as states
use Rattle.ts_ql.specs.declared.token.Kind.{Kind}
use Rattle.ts_ql.specs.declared.token.Kind.TheVariants as kinds
use Rattle.ts_ql.specs.Dates.{timestamp_of}
use Rattle.ts_ql.specs.QueryFaults.{Fault, OutOfRange, unexpected}
use Rattle.ts_ql.specs.Literals.{is_word, literal}
use Rattle.ts_ql.specs.Ranges.{bounded}
use Rattle.ts_ql.specs.Tokens.{Lexeme}

abbrev pub Timing : Type 0
Timing = Result (State × Moment) Fault

-- a time expression at offset `first` with this value
abbrev pub based : ℕ → Moment → Option ℤ → Timing
based first m None = Err (OutOfRange first)
based first m (Some value) = Ok (states.AfterMoment, record m { first = first; total = value })

-- one more duration can be added to the sum without overflow of 128 bits
abbrev pub CanAddMore : ℤ → Moment → Type 0
CanAddMore now m = unsigned_abs m.total ≤ 2 ^ 126 + unsigned_abs now

-- adds a duration
abbrev pub later_by : Lexeme → Moment → Option ℤ → Timing
later_by t m None = Err (OutOfRange t.start)
later_by t m (Some value) = Ok (states.AfterMoment, record m { total = m.total +ℤ value })

-- subtracts a duration
abbrev pub earlier_by : Lexeme → Moment → Option ℤ → Timing
earlier_by t m None = Err (OutOfRange t.start)
earlier_by t m (Some value) = Ok (states.AfterMoment, record m { total = m.total -ℤ value })

abbrev pub compared : Comparison → Moment → Timing
compared c m = Ok (states.Moment, record m { comparison = c })

abbrev pub moment_at : ℤ → State → Kind → Lexeme → Moment → Timing
moment_at now states.TimeSign kinds.Equals t m = compared comparisons.Equal m
moment_at now states.TimeSign kinds.Less t m = compared comparisons.Less m
moment_at now states.TimeSign kinds.LessOrEqual t m = compared comparisons.LessOrEqual m
moment_at now states.TimeSign kinds.Greater t m = compared comparisons.Greater m
moment_at now states.TimeSign kinds.GreaterOrEqual t m = compared comparisons.GreaterOrEqual m
moment_at now states.Moment kinds.Minus t m = Ok (states.MomentMinus, record m { first = t.start })
moment_at now states.Moment kinds.Integer t m = based t.start m (literal false t.text)
moment_at now states.Moment kinds.Duration t m = based t.start m (literal false t.text)
moment_at now states.Moment kinds.StringLiteral t m = based t.start m (timestamp_of t.text)
moment_at now states.Moment kinds.Word t m =
    if is_word (codes "now") t.text then Ok (states.NowOpen, record m { first = t.start }) else Err (unexpected t)
moment_at now states.MomentMinus kinds.Integer t m = based m.first m (literal true t.text)
moment_at now states.MomentMinus kinds.Duration t m = based m.first m (literal true t.text)
moment_at now states.NowOpen kinds.LeftParen t m = Ok (states.NowClose, m)
moment_at now states.NowClose kinds.RightParen t m = Ok (states.AfterMoment, record m { total = now })
moment_at now states.AfterMoment kinds.Plus t m = Ok (states.MomentPlus, m)
moment_at now states.AfterMoment kinds.Minus t m = Ok (states.MomentLess, m)
moment_at now states.MomentPlus kinds.Duration t m = later_by t m (literal false t.text)
moment_at now states.MomentLess kinds.Duration t m = earlier_by t m (literal false t.text)
moment_at now state kind t m = Err (unexpected t)

unfoldable pub moment_step : ℤ → State → Lexeme → Moment → Timing
moment_step now state t m = moment_at now state t.kind t m

-- ---- the end of a time expression

abbrev pub no_moment : Moment
no_moment = record { comparison = comparisons.Equal; first = 0; total = pos 0 }

-- a complete time expression is a valid time
abbrev pub moment_time : Moment → Result ℤ Fault
moment_time m =
    if int_le least_time m.total && int_le m.total greatest_time then Ok m.total else Err (OutOfRange m.first)

abbrev pub bounded_by : Comparison → Range → Result ℤ Fault → Result Range Fault
bounded_by c r (Ok time) = Ok (bounded c time r)
bounded_by c r (Err fault) = Err fault

-- the range after a complete time expression
unfoldable pub narrowed : Moment → Range → Result Range Fault
narrowed m r = bounded_by m.comparison r (moment_time m)
