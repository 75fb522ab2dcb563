-- The columns of a statement, read once more from its text.
-- (InfluxData 1.8, InfluxQL: the basic SELECT statement, AS.)
use Rattle.std.specs.Prelude.{◌≡◌, ℕ, zero, suc, List, ◌++◌, Bool, true, false, Result, Ok, Err}
use Rattle.std.specs.Str.{IsCharBoundary}
use Rattle.ts_core.specs.facts.Facts.{Text}
use Rattle.ts_ql.specs.declared.lists.column_reader.ColumnReader.{ColumnReader}
use Rattle.ts_ql.specs.declared.state.State.{State}
use Rattle.ts_ql.specs.declared.state.State.TheVariants as states
use Rattle.ts_ql.specs.Lexing.{token_at}
use Rattle.ts_ql.specs.QueryFaults.{Fault}
use Rattle.ts_ql.specs.Selects.{Projection}
use Rattle.ts_ql.specs.SelectSteps.{Selected, selected_with, select_step, empty_selection}
use Rattle.ts_ql.specs.Tokens.{Lexeme}

-- FROM has been read, and all columns before it
abbrev pub has_from : State → Bool
has_from states.Measurement = true
has_from state = false

abbrev pub SelectsThen : (ℕ → State → Selected → Type 0) → Lexeme → Result (State × Selected) Fault → Type 0
SelectsThen rest t (Ok p) = rest t.end p.0 p.1
SelectsThen rest t (Err fault) = ⊥

abbrev pub SelectsIf : Bool → (ℕ → State → Selected → Type 0) → List Projection → Lexeme → State → Selected → Type 0
SelectsIf true rest columns t state s = s.columns ≡ columns
SelectsIf false rest columns t state s = SelectsThen rest t (select_step state t s)

-- from this offset and state on, fewer than n tokens end the columns, by FROM
abbrev pub SelectsWithin : ℕ → Text → List Projection → ℕ → State → Selected → Type 0
SelectsWithin zero text columns at state s = ⊥
SelectsWithin (suc n) text columns at state s =
    SelectsIf (has_from state) (SelectsWithin n text columns) columns (token_at text at) state s

-- from this offset and state on, these are all columns of the statement
abbrev pub Selects : Text → List Projection → ℕ → State → Selected → Type 0
Selects text columns at state s = (n : ℕ) × SelectsWithin n text columns at state s

-- these are the columns of the statement whose SELECT is at offset `start`
abbrev pub HasColumns : Text → ℕ → List Projection → Type 0
HasColumns text start columns = Selects text columns (token_at text start).end states.Function empty_selection

-- a reader stands between two characters of its text
abbrev pub IsOnBoundary : ColumnReader → Type 0
IsOnBoundary r = IsCharBoundary r.text.now r.at

-- after some columns, these are left to be read
abbrev pub AreLeft : ColumnReader → List Projection → Type 0
AreLeft r left =
    (columns : List Projection) × Selects r.text.now (columns ++ left) r.at r.state (selected_with columns r.call)
