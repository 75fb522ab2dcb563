-- The columns of a statement, read once more from its text: what one token leaves, and names that repeat.
use Rattle.std.proofs.Common.{◌≡◌, ℕ, zero, suc, List, [], ◌∷◌, ◌++◌, Bool, true, false, ◌||◌, codes, Option, Some, None, Result, Ok, Err, refl, sym, ◌∙◌, subst, append_assoc}
use Rattle.std.proofs.lemmas.List.{append-nil, append_cancel_left}
use Rattle.std.specs.Prelude.{⊤, if◌then◌else◌, bytes_eq}
use Rattle.ts_core.specs.facts.Facts.{Text}
use Rattle.ts_core.specs.declared.queries.value.Function.{Function}
use Rattle.ts_ql.specs.declared.fault.QlFault.{QlFault}
use Rattle.ts_ql.specs.declared.lists.columns.Column.{Column}
use Rattle.ts_ql.specs.declared.selection.SelectCall.{SelectCall}
use Rattle.ts_ql.specs.declared.state.State.{State}
use Rattle.ts_ql.specs.declared.state.State.TheVariants as states
use Rattle.ts_ql.specs.declared.token.Kind.{Kind}
use Rattle.ts_ql.specs.declared.token.Kind.TheVariants as kinds
use Rattle.ts_ql.specs.ColumnReading.{has_from, SelectsThen, SelectsIf, SelectsWithin, Selects}
use Rattle.ts_ql.specs.Keywords.{function_called, named}
use Rattle.ts_ql.specs.Lexing.{token_at}
use Rattle.ts_ql.specs.Lists.{projection}
use Rattle.ts_ql.specs.Literals.{is_word}
use Rattle.ts_ql.specs.QueryFaults.{unexpected, unsupported}
use Rattle.ts_ql.specs.Reading.{is_outside}
use Rattle.ts_ql.specs.Selects.{Projection}
use Rattle.ts_ql.specs.SelectSteps.{Selected, selected_with, Selecting, with_function, with_call_field, with_default, select_at, select_step, with_ended, FindsColumn}
use Rattle.ts_ql.specs.Statements.{has_column, repeats}
use Rattle.ts_ql.specs.Tokens.{Lexeme}

-- ---- one token of SELECT or FROM

-- SELECT or FROM is being read
abbrev pub is_selecting : State → Bool
is_selecting states.Function = true
is_selecting states.FunctionOpen = true
is_selecting states.Field = true
is_selecting states.FieldEnd = true
is_selecting states.FieldType = true
is_selecting states.FieldClose = true
is_selecting states.AfterColumn = true
is_selecting states.Alias = true
is_selecting states.AfterAlias = true
is_selecting states.Measurement = true
is_selecting state = false

-- these columns, and perhaps more, are all columns
abbrev Begins : List Projection → List Projection → Type 0
Begins columns all = (more : List Projection) × (all ≡ columns ++ more)

-- A token before the measurement leads to a state of SELECT or FROM, and adds columns or none. The measurement leads out
-- of them, and leaves the columns.
abbrev pub Picks : Bool → List Projection → Selecting → Type 0
Picks false columns (Ok q) = (is_selecting q.0 ≡ true) × Begins columns q.1.columns
Picks true columns (Ok q) = (is_outside q.0 ≡ true) × (q.1.columns ≡ columns)
Picks from columns (Err fault) = ⊤

picks_if : (columns : List Projection) (test : Bool) (one other : Selecting) → Picks false columns one → Picks false columns other → Picks false columns (if test then one else other)
picks_if columns true one other a b = a
picks_if columns false one other a b = b

same : (columns : List Projection) → Begins columns columns
same columns = ([], sym (append-nil columns))

function_picks : (t : Lexeme) (s : Selected) (o : Option Function) → Picks false s.columns (with_function t s o)
function_picks t s None = tt
function_picks t s (Some f) = (refl, same s.columns)

field_picks : (t : Lexeme) (s : Selected) (o : Option Text) → Picks false s.columns (with_call_field t s o)
field_picks t s None = (refl, same s.columns)
field_picks t s (Some field) = picks_if s.columns (bytes_eq field (named t)) (Ok (states.FieldEnd, s)) (Err (unsupported t)) (refl, same s.columns) tt

pub select_picks : (p : State) (k : Kind) (t : Lexeme) (s : Selected) → Picks (has_from p) s.columns (select_at p k t s)
select_picks states.Function kinds.Word t s = function_picks t s (function_called t.text)
select_picks states.Function kinds.QuotedName t s = tt
select_picks states.FunctionOpen kinds.LeftParen t s = (refl, same s.columns)
select_picks states.Field kinds.Word t s = field_picks t s s.field
select_picks states.Field kinds.QuotedName t s = field_picks t s s.field
select_picks states.FieldEnd kinds.RightParen t s = (refl, same s.columns)
select_picks states.FieldEnd kinds.DoubleColon t s = (refl, same s.columns)
select_picks states.FieldType kinds.Word t s =
    picks_if s.columns (is_word (codes "field") t.text || is_word (codes "integer") t.text) (Ok (states.FieldClose, s)) (Err (unexpected t)) (refl, same s.columns) tt
select_picks states.FieldClose kinds.RightParen t s = (refl, same s.columns)
select_picks states.AfterColumn kinds.Comma t s = (refl, (_, refl))
select_picks states.AfterColumn kinds.Keyword t s =
    picks_if s.columns (is_word (codes "from") t.text) (Ok (states.Measurement, with_default s)) (if is_word (codes "as") t.text then Ok (states.Alias, s) else Err (unexpected t)) (refl, (_, refl))
    (picks_if s.columns (is_word (codes "as") t.text) (Ok (states.Alias, s)) (Err (unexpected t)) (refl, same s.columns) tt)
select_picks states.Alias kinds.Word t s = (refl, (_, refl))
select_picks states.Alias kinds.QuotedName t s = (refl, (_, refl))
select_picks states.AfterAlias kinds.Comma t s = (refl, same s.columns)
select_picks states.AfterAlias kinds.Keyword t s = picks_if s.columns (is_word (codes "from") t.text) (Ok (states.Measurement, s)) (Err (unexpected t)) (refl, same s.columns) tt
select_picks states.Measurement kinds.Word t s = (refl, refl)
select_picks states.Measurement kinds.QuotedName t s = (refl, refl)
select_picks states.Measurement kinds.LeftParen t s = tt
select_picks p k t s = tt

-- ---- the columns so far come first

begins_on : (columns more all : List Projection) → Begins (columns ++ more) all → Begins columns all
begins_on columns more all (rest, e) = (more ++ rest, e ∙ append_assoc columns more rest)

then_begins : (rest : ℕ → State → Selected → Type 0) (columns all : List Projection) (t : Lexeme) (r : Selecting) → ((at : ℕ) (q : State) (s : Selected) → rest at q s → Begins s.columns all)
    → Picks false columns r → SelectsThen rest t r → Begins columns all
then_begins rest columns all t (Ok q) later picks w = let (more, e) = picks.1 in begins_on columns more all (rw (sym e) (later t.end q.0 q.1 w))
then_begins rest columns all t (Err fault) later picks w = absurd w

if_begins : (b : Bool) (n : ℕ) (text : Text) (all : List Projection) (t : Lexeme) (p : State) (s : Selected)
    → ((at : ℕ) (q : State) (s : Selected) → SelectsWithin n text all at q s → Begins s.columns all) → Picks b s.columns (select_step p t s)
    → SelectsIf b (SelectsWithin n text all) all t p s → Begins s.columns all
if_begins true n text all t p s later picks w = ([], sym w ∙ sym (append-nil s.columns))
if_begins false n text all t p s later picks w = then_begins (SelectsWithin n text all) s.columns all t (select_step p t s) later picks w

step_picks : (p : State) (t : Lexeme) (s : Selected) → Picks (has_from p) s.columns (select_step p t s)
unfolding select_step
step_picks p t s = select_picks p t.kind t s

begins : (n : ℕ) (text : Text) (all : List Projection) (at : ℕ) (p : State) (s : Selected) → SelectsWithin n text all at p s → Begins s.columns all
begins zero text all at p s w = absurd w
begins (suc n) text all at p s w = if_begins (has_from p) n text all (token_at text at) p s (begins n text all) (step_picks p (token_at text at) s) w

-- ---- one token

-- these columns are left at this offset, in this state
abbrev pub LeftAt : Text → ℕ → State → SelectCall → List Projection → Type 0
LeftAt text at p call left = (columns : List Projection) × Selects text (columns ++ left) at p (selected_with columns call)

-- a token ended a column, the first of those that were left, or none
abbrev pub LeavesAt : Text → ℕ → Option Column → State → SelectCall → List Projection → Type 0
LeavesAt text at None p call left = LeftAt text at p call left
LeavesAt text at (Some column) p call left = (rest : List Projection) × (left ≡ projection column ∷ rest) × LeftAt text at p call rest

abbrev pub LeavesThen : Text → ℕ → Result (State × Option Column) QlFault → SelectCall → List Projection → Type 0
LeavesThen text at (Ok next) call left = LeavesAt text at next.1 next.0 call left
LeavesThen text at (Err fault) call left = ⊥

column_leaves : (n : ℕ) (text : Text) (at : ℕ) (o : Option Column) (p : State) (call : SelectCall) (columns left : List Projection)
    → SelectsWithin n text (columns ++ left) at p (selected_with (with_ended columns o) call) → LeavesAt text at o p call left
column_leaves n text at None p call columns left w = (columns, (n, w))
column_leaves n text at (Some column) p call columns left w =
    let more = begins n text (columns ++ left) at p (selected_with (columns ++ projection column ∷ []) call) w in
    let rest : List Projection = more.0 in
    let e : left ≡ projection column ∷ rest = append_cancel_left columns left (projection column ∷ rest) (more.1 ∙ append_assoc columns (projection column ∷ []) rest) in
    (rest, e, (columns ++ projection column ∷ [], (n, subst (λ (all : List Projection). SelectsWithin n text all at p (selected_with (columns ++ projection column ∷ []) call)) more.1 w)))

then_leaves : (n : ℕ) (text : Text) (t : Lexeme) (r : Result (State × Option Column) QlFault) (said : Selecting) (call : SelectCall) (columns left : List Projection)
    → FindsColumn columns r call said → SelectsThen (SelectsWithin n text (columns ++ left)) t said → LeavesThen text t.end r call left
then_leaves n text t (Ok next) said call columns left finds w =
    column_leaves n text t.end next.1 next.0 call columns left (subst (λ (x : Selecting). SelectsThen (SelectsWithin n text (columns ++ left)) t x) finds w)
then_leaves n text t (Err fault) said call columns left finds w = subst (λ (x : Selecting). SelectsThen (SelectsWithin n text (columns ++ left)) t x) finds w

within_leaves : (n : ℕ) (text : Text) (at : ℕ) (p : State) (r : Result (State × Option Column) QlFault) (before after : SelectCall) (columns left : List Projection)
    → has_from p ≡ false → FindsColumn columns r after (select_step p (token_at text at) (selected_with columns before))
    → SelectsWithin n text (columns ++ left) at p (selected_with columns before) → LeavesThen text (token_at text at).end r after left
within_leaves zero text at p r before after columns left more finds w = absurd w
within_leaves (suc n) text at p r before after columns left more finds w =
    then_leaves n text (token_at text at) r (select_step p (token_at text at) (selected_with columns before)) after columns left finds
    (subst (λ (b : Bool). SelectsIf b (SelectsWithin n text (columns ++ left)) (columns ++ left) (token_at text at) p (selected_with columns before)) more w)

-- what a token leaves
pub leaves : (text : Text) (at : ℕ) (p : State) (t : Lexeme) (r : Result (State × Option Column) QlFault) (before after : SelectCall) (left : List Projection) → t ≡ token_at text at → has_from p ≡ false
    → ((columns : List Projection) → FindsColumn columns r after (select_step p t (selected_with columns before)))
    → LeftAt text at p before left → LeavesThen text t.end r after left
leaves text at p t r before after left is more finds (columns, (n, w)) =
    rw is (within_leaves n text at p r before after columns left more (subst (λ (l : Lexeme). FindsColumn columns r after (select_step p l (selected_with columns before))) is (finds columns)) w)

-- after FROM no column is left
none_within : (n : ℕ) (text : Text) (at : ℕ) (p : State) (call : SelectCall) (columns left : List Projection) → has_from p ≡ true
    → SelectsWithin n text (columns ++ left) at p (selected_with columns call) → left ≡ []
none_within zero text at p call columns left done w = absurd w
none_within (suc n) text at p call columns left done w =
    let all : columns ≡ columns ++ left = subst (λ (b : Bool). SelectsIf b (SelectsWithin n text (columns ++ left)) (columns ++ left) (token_at text at) p (selected_with columns call)) done w in
    append_cancel_left columns left [] (sym all ∙ sym (append-nil columns))

pub none_left : (text : Text) (at : ℕ) (p : State) (call : SelectCall) (left : List Projection) → has_from p ≡ true → LeftAt text at p call left → left ≡ []
none_left text at p call left done (columns, (n, w)) = none_within n text at p call columns left done w

-- ---- the end of a text

select_ends : (p : State) (t : Lexeme) (s : Selected) → select_at p kinds.End t s ≡ Err (unexpected t)
select_ends states.Function t s = refl
select_ends states.FunctionOpen t s = refl
select_ends states.Field t s = refl
select_ends states.FieldEnd t s = refl
select_ends states.FieldType t s = refl
select_ends states.FieldClose t s = refl
select_ends states.AfterColumn t s = refl
select_ends states.Alias t s = refl
select_ends states.AfterAlias t s = refl
select_ends states.Measurement t s = refl
select_ends p t s = refl

refused_end : (p : State) (k : Kind) (t : Lexeme) (s : Selected) → k ≡ kinds.End → select_at p k t s ≡ Err (unexpected t)
refused_end p k t s e = rw e (select_ends p t s)

-- a token that is taken isn't the end of the text
pub not_end : (p q : State) (t : Lexeme) (o : Option Column) (before after : SelectCall) (columns : List Projection)
    → FindsColumn columns (Ok (q, o)) after (select_step p t (selected_with columns before)) → t.kind ≡ kinds.End → ⊥
unfolding select_step
not_end p q t o before after columns finds e =
    let refused : select_at p t.kind t (selected_with columns before) ≡ Err (unexpected t) = refused_end p t.kind t (selected_with columns before) e in
    absurd (cc)

-- ---- names

pub named_here : (name : Text) (left rest : List Projection) (c : Projection) → left ≡ c ∷ rest → bytes_eq c.name name ≡ true → has_column name left ≡ true
named_here name left rest c is e = rw (is, e) refl

pub named_later : (name : Text) (left rest : List Projection) (c : Projection) → left ≡ c ∷ rest → bytes_eq c.name name ≡ false → has_column name left ≡ has_column name rest
named_later name left rest c is e = rw (is, e) refl

pub repeats_time : (left rest : List Projection) (c : Projection) → left ≡ c ∷ rest → bytes_eq c.name (codes "time") ≡ true → repeats left ≡ true
repeats_time left rest c is e = rw (is, e) refl

pub repeats_named : (left rest : List Projection) (c : Projection) → left ≡ c ∷ rest → bytes_eq c.name (codes "time") ≡ false → has_column c.name rest ≡ true → repeats left ≡ true
repeats_named left rest c is time e = rw (is, time, e) refl

pub repeats_later : (left rest : List Projection) (c : Projection) → left ≡ c ∷ rest → bytes_eq c.name (codes "time") ≡ false → has_column c.name rest ≡ false → repeats left ≡ repeats rest
repeats_later left rest c is time others = rw (is, time, others) refl
