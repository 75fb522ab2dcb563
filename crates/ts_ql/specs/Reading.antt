-- The state machine that parses a text: the effect of each token in each state. The meaning of a text by the grammar is
-- in Laws.
-- (InfluxData 1.8, InfluxQL: the basic SELECT statement, several statements. Own rule: at most 65,536 bytes and 16
-- statements.)
use Rattle.std.specs.Prelude.{◌≡◌, ◌&&◌, ℕ, zero, suc, ℤ, ◌+◌, List, [], ◌∷◌, ◌++◌, length, Bool, true, false, ◌==◌, nat_lt, nat_le, Option, Some, None, Result, Ok, Err, if◌then◌else◌, codes}
use Rattle.ts_core.specs.facts.Facts.{Text}
use Rattle.ts_ql.specs.declared.filling.FillClause.{FillClause}
use Rattle.ts_ql.specs.declared.fault.QlFault.{QlFault}
use Rattle.ts_ql.specs.declared.moment.Moment.{Moment}
use Rattle.ts_ql.specs.declared.moment.Range.{Range}
use Rattle.ts_ql.specs.declared.state.Clause.{Clause}
use Rattle.ts_ql.specs.declared.state.Clause.TheVariants as clauses
use Rattle.ts_ql.specs.declared.state.State.{State}
use Rattle.ts_ql.specs.declared.state.State.TheVariants as states
use Rattle.ts_ql.specs.declared.reader.Reader.{Reader}
use Rattle.ts_ql.specs.declared.token.Kind.{Kind}
use Rattle.ts_ql.specs.declared.token.Kind.TheVariants as kinds
use Rattle.ts_ql.specs.ColumnReading.{HasColumns}
use Rattle.ts_ql.specs.QueryFaults.{Fault, Syntax, TooManyStatements, as_fault, unexpected}
use Rattle.ts_ql.specs.GroupSteps.{Grouped, group_step, fill_step}
use Rattle.ts_ql.specs.Lexing.{token_at}
use Rattle.ts_ql.specs.Literals.{is_word}
use Rattle.ts_ql.specs.MomentSteps.{moment_step, narrowed}
use Rattle.ts_ql.specs.SelectSteps.{Selected, select_step}
use Rattle.ts_ql.specs.Selects.{Select}
use Rattle.ts_ql.specs.Statements.{statement_query}
use Rattle.ts_ql.specs.Builders.{BuilderState, builder_state, empty_builder, meaning}
use Rattle.ts_ql.specs.Tokens.{Lexeme}
use Rattle.ts_ql.specs.WhereSteps.{Filtered, after_term, where_step}

-- ---- within a statement

abbrev pub BuilderResult : Type 0
BuilderResult = Result (State × BuilderState) Fault

-- a token that doesn't continue a time expression ends it
abbrev pub narrowed_in : BuilderState → Result Range Fault → BuilderResult
narrowed_in d (Ok range) = Ok (after_term d.filter.depth, record d { range = range })
narrowed_in d (Err fault) = Err fault

abbrev pub finish_time_at : State → Kind → BuilderState → BuilderResult
finish_time_at states.AfterMoment kinds.Plus d = Ok (states.AfterMoment, d)
finish_time_at states.AfterMoment kinds.Minus d = Ok (states.AfterMoment, d)
finish_time_at states.AfterMoment kind d = narrowed_in d (narrowed d.moment d.range)
finish_time_at state kind d = Ok (state, d)

unfoldable pub finish_time_step : State → Kind → BuilderState → BuilderResult
finish_time_step state kind d = finish_time_at state kind d

abbrev pub in_selection : BuilderState → Result (State × Selected) Fault → BuilderResult
in_selection d (Ok p) = Ok (p.0, record d { selection = p.1 })
in_selection d (Err fault) = Err fault

abbrev pub in_filter : BuilderState → Result (State × Filtered) Fault → BuilderResult
in_filter d (Ok p) = Ok (p.0, record d { filter = p.1 })
in_filter d (Err fault) = Err fault

abbrev pub in_moment : BuilderState → Result (State × Moment) Fault → BuilderResult
in_moment d (Ok p) = Ok (p.0, record d { moment = p.1 })
in_moment d (Err fault) = Err fault

abbrev pub in_groups : BuilderState → Result (State × Grouped) Fault → BuilderResult
in_groups d (Ok p) = Ok (p.0, record d { groups = p.1 })
in_groups d (Err fault) = Err fault

abbrev pub in_filling : BuilderState → Result (State × FillClause) Fault → BuilderResult
in_filling d (Ok p) = Ok (p.0, record d { filling = p.1 })
in_filling d (Err fault) = Err fault

-- the clause of a state outside SELECT and tag conditions
abbrev pub late_clause_of : State → Clause
late_clause_of states.TimeSign = clauses.Moment
late_clause_of states.Moment = clauses.Moment
late_clause_of states.MomentMinus = clauses.Moment
late_clause_of states.NowOpen = clauses.Moment
late_clause_of states.NowClose = clauses.Moment
late_clause_of states.AfterMoment = clauses.Moment
late_clause_of states.MomentPlus = clauses.Moment
late_clause_of states.MomentLess = clauses.Moment
late_clause_of states.GroupBy = clauses.Group
late_clause_of states.Item = clauses.Group
late_clause_of states.TimeOpen = clauses.Group
late_clause_of states.Interval = clauses.Group
late_clause_of states.IntervalEnd = clauses.Group
late_clause_of states.Offset = clauses.Group
late_clause_of states.OffsetMinus = clauses.Group
late_clause_of states.OffsetEnd = clauses.Group
late_clause_of states.AfterTag = clauses.Group
late_clause_of states.GroupTagType = clauses.Group
late_clause_of states.AfterItem = clauses.Group
late_clause_of states.FillOpen = clauses.Fill
late_clause_of states.FillOption = clauses.Fill
late_clause_of states.FillMinus = clauses.Fill
late_clause_of states.FillClose = clauses.Fill
late_clause_of state = clauses.None

abbrev pub clause_of : State → Clause
clause_of states.Function = clauses.Select
clause_of states.FunctionOpen = clauses.Select
clause_of states.Field = clauses.Select
clause_of states.FieldEnd = clauses.Select
clause_of states.FieldType = clauses.Select
clause_of states.FieldClose = clauses.Select
clause_of states.AfterColumn = clauses.Select
clause_of states.Alias = clauses.Select
clause_of states.AfterAlias = clauses.Select
clause_of states.Measurement = clauses.Select
clause_of states.Term = clauses.Where
clause_of states.TagEnd = clauses.Where
clause_of states.TagType = clauses.Where
clause_of states.TagSign = clauses.Where
clause_of states.TagValue = clauses.Where
clause_of states.AfterTerm = clauses.Where
clause_of states.NestedTerm = clauses.Where
clause_of state = late_clause_of state

abbrev pub builder_at : Clause → ℤ → State → Lexeme → BuilderState → BuilderResult
builder_at clauses.Select now state t d = in_selection d (select_step state t d.selection)
builder_at clauses.Where now state t d = in_filter d (where_step state t d.filter)
builder_at clauses.Moment now state t d = in_moment d (moment_step now state t d.moment)
builder_at clauses.Group now state t d = in_groups d (group_step state t d.groups)
builder_at clauses.Fill now state t d = in_filling d (fill_step state t d.filling)
builder_at clauses.None now state t d = Err (unexpected t)

unfoldable pub builder_step : ℤ → State → Lexeme → BuilderState → BuilderResult
builder_step now state t d = builder_at (clause_of state) now state t d

-- ---- from clause to clause

abbrev pub where_or_group : Text → Option State
where_or_group text = if is_word (codes "where") text
    then Some states.Term else if is_word (codes "group") text then Some states.GroupBy else None

abbrev pub group_alone : Text → Option State
group_alone text = if is_word (codes "group") text then Some states.GroupBy else None

abbrev pub fill_alone : Text → Option State
fill_alone text = if is_word (codes "fill") text then Some states.FillOpen else None

abbrev pub clause_at : State → Kind → Text → Option State
clause_at states.AfterMeasurement kinds.Keyword text = where_or_group text
clause_at states.AfterTerm kinds.Keyword text = group_alone text
clause_at states.AfterMeasurement kinds.Word text = fill_alone text
clause_at states.AfterTerm kinds.Word text = fill_alone text
clause_at states.AfterTag kinds.Word text = fill_alone text
clause_at states.AfterItem kinds.Word text = fill_alone text
clause_at state kind text = None

-- the first state of the clause that the token opens, if it opens one
unfoldable pub next_clause : State → Lexeme → Option State
next_clause state t = clause_at state t.kind t.text

abbrev pub is_end : Kind → Bool
is_end kinds.Semicolon = true
is_end kinds.End = true
is_end kind = false

abbrev pub may_end : State → Bool
may_end states.AfterMeasurement = true
may_end states.AfterTerm = true
may_end states.AfterTag = true
may_end states.AfterItem = true
may_end states.AfterFill = true
may_end state = false

-- within a statement, after its SELECT and FROM
abbrev pub is_outside : State → Bool
is_outside states.Statement = false
is_outside states.Function = false
is_outside states.FunctionOpen = false
is_outside states.Field = false
is_outside states.FieldEnd = false
is_outside states.FieldType = false
is_outside states.FieldClose = false
is_outside states.AfterColumn = false
is_outside states.Alias = false
is_outside states.AfterAlias = false
is_outside states.Measurement = false
is_outside states.Done = false
is_outside state = true

-- ---- statements

-- state of the parser: grammar state, number of statements begun, offset and builder of the current one, and queries of
-- those before it
pub record Progress : Type 0 where
  pub state : State
  pub count : ℕ
  pub start : ℕ
  pub builder : BuilderState
  pub queries : List Select

abbrev pub progress : {A : Type 0} → Reader A → Progress
progress r =
    record { state = r.state; count = r.count; start = r.start; builder = builder_state r.builder; queries = r.queries }

abbrev pub start_progress : Progress
start_progress = record { state = states.Statement; count = 0; start = 0; builder = empty_builder; queries = [] }

abbrev pub Advance : Type 0
Advance = Result Progress Fault

-- a call that needs no memory left this state
abbrev pub FindsState : Result (Unit {0}) QlFault → Progress → Advance → Type 0
FindsState (Ok u) s step = step ≡ Ok s
FindsState (Err fault) s step = step ≡ Err (as_fault fault)

-- after its FROM, the columns of the current statement are those of the text
abbrev pub HasColumnsOf : Text → Progress → Type 0
HasColumnsOf text s = is_outside s.state ≡ true → HasColumns text s.start s.builder.selection.columns

-- SELECT begins a statement, and the text may end after one
abbrev pub begun_at : Kind → Lexeme → Progress → Advance
begun_at kinds.Keyword t s =
    if is_word (codes "select") t.text
    then (if nat_le 16 s.count then Err (TooManyStatements t.start)
    else Ok (record s { state = states.Function; count = s.count + 1; start = t.start }))
    else Err (unexpected t)
begun_at kinds.End t s = if s.count == 0 then Err (unexpected t) else Ok (record s { state = states.Done })
begun_at kind t s = Err (unexpected t)

unfoldable pub begun : Lexeme → Progress → Advance
begun t s = begun_at t.kind t s

abbrev pub after_end : Kind → State
after_end kinds.Semicolon = states.Statement
after_end kind = states.Done

abbrev pub ended_with : Kind → Progress → Result Select Fault → Advance
ended_with kind s (Ok q) =
    Ok (record s { state = after_end kind; builder = empty_builder; queries = s.queries ++ q ∷ [] })
ended_with kind s (Err fault) = Err fault

abbrev pub ended : ℤ → Kind → Progress → Advance
ended now kind s = ended_with kind s (statement_query s.start now (meaning s.builder))

abbrev pub with_builder : Progress → BuilderResult → Advance
with_builder s (Ok p) = Ok (record s { state = p.0; builder = p.1 })
with_builder s (Err fault) = Err fault

abbrev pub clause_or : ℤ → Lexeme → Progress → Option State → Advance
clause_or now t s None = with_builder s (builder_step now s.state t s.builder)
clause_or now t s (Some next) = Ok (record s { state = next })

-- a token within a statement
abbrev pub continued : ℤ → Lexeme → Progress → Advance
continued now t s =
    if may_end s.state && is_end t.kind then ended now t.kind s else clause_or now t s (next_clause s.state t)

abbrev pub placed_at : State → ℤ → Lexeme → Progress → Advance
placed_at states.Statement now t s = begun t s
placed_at state now t s = continued now t s

abbrev pub after_finishing_time : ℤ → Lexeme → Progress → BuilderResult → Advance
after_finishing_time now t s (Ok p) = placed_at p.0 now t (record s { state = p.0; builder = p.1 })
after_finishing_time now t s (Err fault) = Err fault

-- the state after one more token
unfoldable pub step : ℤ → Lexeme → Progress → Advance
step now t s = after_finishing_time now t s (finish_time_step s.state t.kind s.builder)

-- ---- texts

abbrev pub is_done : State → Bool
is_done states.Done = true
is_done state = false

abbrev pub goes_on : (Progress → ℕ → Result (List Select) Fault) → Lexeme → Advance → Result (List Select) Fault
goes_on rest t (Ok s) = if is_done s.state then Ok s.queries else rest s t.end
goes_on rest t (Err fault) = Err fault

-- the queries from offset `at` on, of at most n tokens
abbrev pub read_on : ℕ → ℤ → Text → Progress → ℕ → Result (List Select) Fault
read_on zero now text s at = Err (Syntax (length text))
read_on (suc n) now text s at = goes_on (read_on n now text) (token_at text at) (step now (token_at text at) s)

-- the queries of a text, or its first error; a text has at most one token per byte, and one for its end
unfoldable pub queries_of : ℤ → Text → Result (List Select) Fault
queries_of now text =
    if nat_lt 65536 (length text) then Err (Syntax 65536) else read_on (length text + 1) now text start_progress 0
