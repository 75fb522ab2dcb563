-- Effect of each token in SELECT and FROM.
-- (InfluxData 1.8, InfluxQL: the basic SELECT statement, AS; FROM.)
use Rattle.std.specs.Prelude.{◌≡◌, List, [], ◌∷◌, ◌++◌, ◌||◌, Option, Some, None, option_map, Result, Ok, Err, if◌then◌else◌, codes, bytes_eq}
use Rattle.ts_core.specs.facts.Facts.{Text}
use Rattle.ts_core.specs.declared.queries.value.Function.{Function}
use Rattle.ts_core.specs.declared.queries.value.Function.TheVariants as functions
use Rattle.ts_ql.specs.declared.state.State.{State}
use Rattle.ts_ql.specs.declared.state.State.TheVariants as states
use Rattle.ts_ql.specs.declared.fault.QlFault.{QlFault}
use Rattle.ts_ql.specs.declared.lists.columns.Column.{Column}
use Rattle.ts_ql.specs.declared.selection.SelectCall.{SelectCall}
use Rattle.ts_ql.specs.declared.selection.Selection.{Selection}
use Rattle.ts_ql.specs.declared.token.Kind.{Kind}
use Rattle.ts_ql.specs.declared.token.Kind.TheVariants as kinds
use Rattle.ts_ql.specs.Lists.{spelled_by, projection}
use Rattle.ts_ql.specs.QueryFaults.{Fault, as_fault, unsupported, unexpected}
use Rattle.ts_ql.specs.Literals.{is_word}
use Rattle.ts_ql.specs.Selects.{Projection, function_name}
use Rattle.ts_ql.specs.Tokens.{Lexeme}
use Rattle.ts_ql.specs.Keywords.{function_called, named}

-- state of the clause: the columns, the function of the current column, the one field, and the measurement
pub record Selected : Type 0 where
  pub columns : List Projection
  pub function : Function
  pub field : Option Text
  pub measurement : Text

-- these columns, and the parts without the list as written
abbrev pub selected_with : List Projection → SelectCall → Selected
selected_with columns c = record {
  columns = columns;
  function = c.function;
  field = option_map spelled_by c.field;
  measurement = spelled_by c.measurement;
}

abbrev pub selected : {A : Type 0} → Selection A → Selected
selected s = selected_with s.columns s.call

abbrev pub Selecting : Type 0
Selecting = Result (State × Selected) Fault

abbrev pub with_function : Lexeme → Selected → Option Function → Selecting
with_function t s None = Err (unsupported t)
with_function t s (Some f) = Ok (states.FunctionOpen, record s { function = f })

-- all functions are applied to one field
abbrev pub with_call_field : Lexeme → Selected → Option Text → Selecting
with_call_field t s None = Ok (states.FieldEnd, record s { field = Some (named t) })
with_call_field t s (Some field) = if bytes_eq field (named t) then Ok (states.FieldEnd, s) else Err (unsupported t)

-- appends the current column under this name
abbrev pub with_column : Text → Selected → Selected
with_column name s = record s { columns = s.columns ++ record { function = s.function; name = name } ∷ [] }

abbrev pub with_default : Selected → Selected
with_default s = with_column (function_name s.function) s

abbrev pub select_at : State → Kind → Lexeme → Selected → Selecting
select_at states.Function kinds.Word t s = with_function t s (function_called t.text)
select_at states.Function kinds.QuotedName t s = Err (unsupported t)
select_at states.FunctionOpen kinds.LeftParen t s = Ok (states.Field, s)
select_at states.Field kinds.Word t s = with_call_field t s s.field
select_at states.Field kinds.QuotedName t s = with_call_field t s s.field
select_at states.FieldEnd kinds.RightParen t s = Ok (states.AfterColumn, s)
select_at states.FieldEnd kinds.DoubleColon t s = Ok (states.FieldType, s)
select_at states.FieldType kinds.Word t s =
    if is_word (codes "field") t.text || is_word (codes "integer") t.text
    then Ok (states.FieldClose, s) else Err (unexpected t)
select_at states.FieldClose kinds.RightParen t s = Ok (states.AfterColumn, s)
select_at states.AfterColumn kinds.Comma t s = Ok (states.Function, with_default s)
select_at states.AfterColumn kinds.Keyword t s =
    if is_word (codes "from") t.text then Ok (states.Measurement, with_default s)
    else if is_word (codes "as") t.text then Ok (states.Alias, s) else Err (unexpected t)
select_at states.Alias kinds.Word t s = Ok (states.AfterAlias, with_column (named t) s)
select_at states.Alias kinds.QuotedName t s = Ok (states.AfterAlias, with_column (named t) s)
select_at states.AfterAlias kinds.Comma t s = Ok (states.Function, s)
select_at states.AfterAlias kinds.Keyword t s =
    if is_word (codes "from") t.text then Ok (states.Measurement, s) else Err (unexpected t)
select_at states.Measurement kinds.Word t s = Ok (states.AfterMeasurement, record s { measurement = named t })
select_at states.Measurement kinds.QuotedName t s = Ok (states.AfterMeasurement, record s { measurement = named t })
select_at states.Measurement kinds.LeftParen t s = Err (unsupported t)
select_at state kind t s = Err (unexpected t)

unfoldable pub select_step : State → Lexeme → Selected → Selecting
select_step state t s = select_at state t.kind t s

abbrev pub empty_selection : Selected
empty_selection = record { columns = []; function = functions.Count; field = None; measurement = [] }

-- ---- one more column

abbrev pub with_ended : List Projection → Option Column → List Projection
with_ended columns None = columns
with_ended columns (Some column) = columns ++ projection column ∷ []

-- after these columns, a call that needs no memory returned the next state and the column that the token ends, if any
abbrev pub FindsColumn : List Projection → Result (State × Option Column) QlFault → SelectCall → Selecting → Type 0
FindsColumn columns (Ok next) call said = said ≡ Ok (next.0, selected_with (with_ended columns next.1) call)
FindsColumn columns (Err fault) call said = said ≡ Err (as_fault fault)
