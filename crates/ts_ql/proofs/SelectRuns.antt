-- SELECT and FROM: the step of each token, and the tokens of each rest.
use Rattle.std.proofs.Common.{◌≡◌, inl, inr, ℤ, List, [], ◌∷◌, ◌++◌, Bool, true, false, Option, Some, None, Ok, Err, map, refl, sym, ap, ◌∙◌, subst}
use Rattle.std.specs.Prelude.{codes, if◌then◌else◌, ◌||◌, bytes_eq}
use Rattle.std.specs.Option.{unwrap_or}
use Rattle.ts_core.specs.facts.Facts.{Text}
use Rattle.ts_core.specs.declared.queries.value.Function.{Function}
use Rattle.ts_core.specs.declared.queries.value.Function.TheVariants as functions
use Rattle.ts_ql.specs.declared.state.State.{State}
use Rattle.ts_ql.specs.declared.state.State.TheVariants as states
use Rattle.ts_ql.specs.declared.token.Kind.{Kind}
use Rattle.ts_ql.specs.declared.token.Kind.TheVariants as kinds
use Rattle.ts_ql.specs.QueryFaults.{unexpected, unsupported}
use Rattle.ts_ql.specs.Grammar.{Examine, Call, FieldType, Field, Integer, FromClause, Measurement, Subquery, Stop, is_name}
use Rattle.ts_ql.specs.Laws.{Reach, ReadsTokens}
use Rattle.ts_ql.specs.Literals.{is_word}
use Rattle.ts_ql.specs.Meanings.{function_of, field_after, after_from}
use Rattle.ts_ql.specs.Reading.{Progress, Advance, with_builder, in_selection}
use Rattle.ts_ql.specs.SelectSteps.{Selecting, select_at, with_function, with_default}
use Rattle.ts_ql.specs.SelectSteps as steps
use Rattle.ts_ql.specs.Productions.{function_fault, function_fault_at, known_function, field_fault}
use Rattle.ts_ql.specs.Builders.{meaning}
use Rattle.ts_ql.specs.Tokens.{Lexeme}
use Rattle.ts_ql.specs.Keywords.{function_called, named}
use Rattle.ts_ql.proofs.Rests.{Rest, SelectTail, ClosedTail, FilterTail, left_at, left_filter, said_at}
use Rattle.ts_ql.proofs.Steps.{at, Answer, Leads, passes, fails, passed, failed, carried}
use Rattle.ts_ql.proofs.KeywordLemmas.{another_word}

abbrev pub selecting : Progress → State → Selecting → Advance
selecting s p step = with_builder (at p s) (in_selection s.builder step)

-- the step by the kind of the token
abbrev pub select_steps : Progress → State → Lexeme → Kind → Advance
select_steps s p t k = selecting s p (select_at p k t s.builder.selection)

-- the same state with another function, or with another field
abbrev pub called_with : Progress → Function → Progress
called_with s f = record s { builder = record s.builder { selection = record s.builder.selection { function = f } } }

abbrev pub fielded : Progress → Option Text → Progress
fielded s o = record s { builder = record s.builder { selection = record s.builder.selection { field = o } } }

abbrev pub with_alias : Progress → Lexeme → Progress
with_alias s l = record s { builder = record s.builder { selection = steps.with_column (named l) s.builder.selection } }

abbrev pub with_measurement : Progress → Lexeme → Progress
with_measurement s l = record s { builder = record s.builder { selection = record s.builder.selection { measurement = named l } } }

-- some rest after a fault
abbrev pub any_source : Lexeme → FromClause × FilterTail
any_source t = (Measurement t, (None, (None, (None, Stop))))

abbrev pub any_closed : Lexeme → ClosedTail
any_closed t = (None, ([], any_source t))

-- ---- from the machine

-- the aggregate of a function and the rest after it
abbrev pub aggregate_of : Lexeme → Rest states.FunctionOpen → Call
aggregate_of t r = record { function = t; field = r.0; cast = r.1.0; alias = r.1.1.0 }

-- the rest after the function of an aggregate
abbrev pub opened : Call → SelectTail → Rest states.FunctionOpen
opened a tail = (a.field, (a.cast, (a.alias, tail)))

any_aggregate : (now : ℤ) (s : Progress) (t : Lexeme) → is_name t.kind ≡ true → function_fault t ≡ Some (unsupported t)
    → Answer now (at states.Function s) t (Err (unsupported t))
any_aggregate now s t i v =
    inl ((record { function = t; field = t; cast = None; alias = None }, ([], any_source t)), tt, inr (refl, i, fails (function_fault t) _ (unsupported t) v))

called : (now : ℤ) (s : Progress) (t : Lexeme) → t.kind ≡ kinds.Word → s.builder.filter.depth ≡ 0 → (o : Option Function) → function_called t.text ≡ o
    → Answer now (at states.Function s) t (selecting s states.Function (with_function t s.builder.selection o))
called now s t e z None v =
    any_aggregate now s t (ap is_name e) (ap (λ (k : Kind). function_fault_at k t) e ∙ ap (known_function t) v)
called now s t e z (Some f) v =
    let same : f ≡ function_of t = sym (ap (λ (o : Option Function). unwrap_or o functions.Count) v) in (
      z,
      λ r suits. (
        (aggregate_of t r, r.1.1.1),
        tt,
        (λ ts reach w. (
          refl,
          ap is_name e,
          passes (function_fault t) _ ts reach (ap (λ (k : Kind). function_fault_at k t) e ∙ ap (known_function t) v)
              (carried (λ (g : Function). left_at states.FunctionOpen now (called_with s g) r) ts reach f (function_of t) same w),
        )),
        ap (λ (g : Function). map Ok s.queries ++ said_at states.FunctionOpen now (called_with s g) r) (sym same),
      ),
    )

-- the field of the functions before it, or another
same_field : (now : ℤ) (s : Progress) (t : Lexeme) → is_name t.kind ≡ true → s.builder.filter.depth ≡ 0 → (field : Text) (b : Bool) → bytes_eq field (named t) ≡ b
    → Answer now (at states.Field (fielded s (Some field))) t
    (selecting (fielded s (Some field)) states.Field (if b then Ok (states.FieldEnd, (fielded s (Some field)).builder.selection) else Err (unsupported t)))
same_field now s t i z field true v =
    (z, λ r suits. ((t, r), tt, (λ ts reach w. (refl, i, passes (field_fault (Some field) t) _ ts reach (ap (λ (b : Bool). if b then None else Some (unsupported t)) v) w)), refl))
same_field now s t i z field false v =
    inl ((t, (None, any_closed t)), tt, inr (refl, i, fails (field_fault (Some field) t) _ (unsupported t) (ap (λ (b : Bool). if b then None else Some (unsupported t)) v)))

field_answers : (now : ℤ) (s : Progress) (t : Lexeme) → is_name t.kind ≡ true → s.builder.filter.depth ≡ 0 → (o : Option Text)
    → Answer now (at states.Field (fielded s o)) t (selecting (fielded s o) states.Field (steps.with_call_field t (fielded s o).builder.selection o))
field_answers now s t i z None = (z, λ r suits. ((t, r), tt, (λ ts reach w. (refl, i, w)), refl))
field_answers now s t i z (Some field) = same_field now s t i z field (bytes_eq field (named t)) refl

-- the type of a field
integer_answers : (now : ℤ) (s : Progress) (t : Lexeme) → t.kind ≡ kinds.Word → s.builder.filter.depth ≡ 0 → (b : Bool) → is_word (codes "integer") t.text ≡ b
    → Answer now (at states.FieldType s) t (selecting s states.FieldType (if b then Ok (states.FieldClose, s.builder.selection) else Err (unexpected t)))
integer_answers now s t e z true is = (z, λ r suits. ((Integer, r), tt, (λ ts reach w. ((e, is), w)), refl))
integer_answers now s t e z false is = inr refl

type_answers : (now : ℤ) (s : Progress) (t : Lexeme) → t.kind ≡ kinds.Word → s.builder.filter.depth ≡ 0 → (b : Bool) → is_word (codes "field") t.text ≡ b
    → Answer now (at states.FieldType s) t (selecting s states.FieldType
    (if b || is_word (codes "integer") t.text then Ok (states.FieldClose, s.builder.selection) else Err (unexpected t)))
type_answers now s t e z true is = (z, λ r suits. ((Field, r), tt, (λ ts reach w. ((e, is), w)), refl))
type_answers now s t e z false is = integer_answers now s t e z (is_word (codes "integer") t.text) refl

-- FROM or AS
as_answers : (now : ℤ) (s : Progress) (t : Lexeme) → t.kind ≡ kinds.Keyword → s.builder.filter.depth ≡ 0 → (b : Bool) → is_word (codes "as") t.text ≡ b
    → Answer now (at states.AfterColumn s) t (selecting s states.AfterColumn (if b then Ok (states.Alias, s.builder.selection) else Err (unexpected t)))
as_answers now s t e z true is = (z, λ r suits. ((Some r.0, r.1), tt, (λ ts reach w. ((e, is), w)), refl))
as_answers now s t e z false is = inr refl

from_answers : (now : ℤ) (s : Progress) (t : Lexeme) → t.kind ≡ kinds.Keyword → s.builder.filter.depth ≡ 0 → (b : Bool) → is_word (codes "from") t.text ≡ b
    → Answer now (at states.AfterColumn s) t (selecting s states.AfterColumn (if b then Ok (states.Measurement, with_default s.builder.selection)
    else if is_word (codes "as") t.text then Ok (states.Alias, s.builder.selection) else Err (unexpected t)))
from_answers now s t e z true is = (z, λ r suits. ((None, ([], r)), tt, (λ ts reach w. ((e, is), w)), refl))
from_answers now s t e z false is = as_answers now s t e z (is_word (codes "as") t.text) refl

-- FROM after a name
from_alone : (now : ℤ) (s : Progress) (t : Lexeme) → t.kind ≡ kinds.Keyword → s.builder.filter.depth ≡ 0 → (b : Bool) → is_word (codes "from") t.text ≡ b
    → Answer now (at states.AfterAlias s) t (selecting s states.AfterAlias (if b then Ok (states.Measurement, s.builder.selection) else Err (unexpected t)))
from_alone now s t e z true is = (z, λ r suits. (([], r), tt, (λ ts reach w. ((e, is), w)), refl))
from_alone now s t e z false is = inr refl

pub select_answers : (now : ℤ) (s : Progress) (p : State) (k : Kind) (t : Lexeme) → t.kind ≡ k → s.builder.filter.depth ≡ 0
    → Answer now (at p s) t (selecting s p (select_at p k t s.builder.selection))
select_answers now s states.Function kinds.Word t e z = called now s t e z (function_called t.text) refl
select_answers now s states.Function kinds.QuotedName t e z = any_aggregate now s t (ap is_name e) (ap (λ (k : Kind). function_fault_at k t) e)
select_answers now s states.FunctionOpen kinds.LeftParen t e z = (z, λ r suits. (r, tt, (λ ts reach w. (e, w)), refl))
select_answers now s states.Field kinds.Word t e z = field_answers now s t (ap is_name e) z s.builder.selection.field
select_answers now s states.Field kinds.QuotedName t e z = field_answers now s t (ap is_name e) z s.builder.selection.field
select_answers now s states.FieldEnd kinds.RightParen t e z = (z, λ r suits. ((None, r), tt, (λ ts reach w. (e, w)), refl))
select_answers now s states.FieldEnd kinds.DoubleColon t e z = (z, λ r suits. ((Some r.0, r.1), tt, (λ ts reach w. (e, w)), refl))
select_answers now s states.FieldType kinds.Word t e z = type_answers now s t e z (is_word (codes "field") t.text) refl
select_answers now s states.FieldClose kinds.RightParen t e z = (z, λ r suits. (r, tt, (λ ts reach w. (e, w)), refl))
select_answers now s states.AfterColumn kinds.Comma t e z = (z, λ r suits. ((None, (r.0 ∷ r.1.0, r.1.1)), tt, (λ ts reach w. (e, w)), refl))
select_answers now s states.AfterColumn kinds.Keyword t e z = from_answers now s t e z (is_word (codes "from") t.text) refl
select_answers now s states.Alias kinds.Word t e z = (z, λ r suits. ((t, r), tt, (λ ts reach w. (refl, ap is_name e, w)), refl))
select_answers now s states.Alias kinds.QuotedName t e z = (z, λ r suits. ((t, r), tt, (λ ts reach w. (refl, ap is_name e, w)), refl))
select_answers now s states.AfterAlias kinds.Comma t e z = (z, λ r suits. ((r.0 ∷ r.1.0, r.1.1), tt, (λ ts reach w. (e, w)), refl))
select_answers now s states.AfterAlias kinds.Keyword t e z = from_alone now s t e z (is_word (codes "from") t.text) refl
select_answers now s states.Measurement kinds.Word t e z = (z, λ r suits. ((Measurement t, r), tt, (λ ts reach w. (refl, ap is_name e, w)), refl))
select_answers now s states.Measurement kinds.QuotedName t e z = (z, λ r suits. ((Measurement t, r), tt, (λ ts reach w. (refl, ap is_name e, w)), refl))
select_answers now s states.Measurement kinds.LeftParen t e z = inl ((Subquery t, (None, (None, (None, Stop)))), tt, inr (refl, e, refl))
select_answers now s p k t e z = inr refl

-- ---- from trees

-- a name is a word or is in quotes
by_name : (P : Kind → Type 0) → P kinds.Word → P kinds.QuotedName → (k : Kind) → is_name k ≡ true → P k
by_name P word quoted kinds.Word i = word
by_name P word quoted kinds.QuotedName i = quoted
by_name P word quoted k i = absurd cc

function_leads_by : (now : ℤ) (s : Progress) (a : Call) (tail : SelectTail) (ts : List Lexeme) (reach : Reach)
    → a.function.kind ≡ kinds.Word → (o : Option Function) → function_called a.function.text ≡ o
    → ReadsTokens (Examine (function_fault a.function) ∷ left_at states.FunctionOpen now (called_with s (function_of a.function)) (opened a tail)) ts reach
    → Leads now (at states.Function s) (a, tail) ts reach (selecting s states.Function (with_function a.function s.builder.selection o))
function_leads_by now s a tail ts reach e None v w =
    failed (function_fault a.function) _ ts reach (unsupported a.function) (ap (λ (k : Kind). function_fault_at k a.function) e ∙ ap (known_function a.function) v) w
function_leads_by now s a tail ts reach e (Some f) v w =
    let same : function_of a.function ≡ f = ap (λ (o : Option Function). unwrap_or o functions.Count) v in (
      opened a tail,
      tt,
      carried (λ (g : Function). left_at states.FunctionOpen now (called_with s g) (opened a tail)) ts reach (function_of a.function) f same
          (passed (function_fault a.function) _ ts reach (ap (λ (k : Kind). function_fault_at k a.function) e ∙ ap (known_function a.function) v) w),
      ap (λ (g : Function). map Ok s.queries ++ said_at states.FunctionOpen now (called_with s g) (opened a tail)) same,
    )

function_leads_at : (now : ℤ) (s : Progress) (a : Call) (tail : SelectTail) (ts : List Lexeme) (reach : Reach) (k : Kind) → is_name k ≡ true → a.function.kind ≡ k
    → ReadsTokens (Examine (function_fault a.function) ∷ left_at states.FunctionOpen now (called_with s (function_of a.function)) (opened a tail)) ts reach
    → Leads now (at states.Function s) (a, tail) ts reach (select_steps s states.Function a.function k)
function_leads_at now s a tail ts reach =
    by_name (λ (k : Kind). a.function.kind ≡ k
    → ReadsTokens (Examine (function_fault a.function) ∷ left_at states.FunctionOpen now (called_with s (function_of a.function)) (opened a tail)) ts reach
    → Leads now (at states.Function s) (a, tail) ts reach (select_steps s states.Function a.function k))
    (λ e w. function_leads_by now s a tail ts reach e (function_called a.function.text) refl w)
    (λ e w. failed (function_fault a.function) _ ts reach (unsupported a.function) (ap (λ (k : Kind). function_fault_at k a.function) e) w)

pub Function_leads : (now : ℤ) (s : Progress) (q : Rest states.Function) (t : Lexeme) (ts : List Lexeme) (reach : Reach)
    → ReadsTokens (left_at states.Function now (at states.Function s) q) (t ∷ ts) reach
    → Leads now (at states.Function s) q ts reach (selecting s states.Function (select_at states.Function t.kind t s.builder.selection))
Function_leads now s q t ts reach w =
    subst (λ (l : Lexeme). Leads now (at states.Function s) q ts reach (select_steps s states.Function l l.kind)) (sym w.0)
    (function_leads_at now s q.0 q.1 ts reach q.0.function.kind (subst (λ (l : Lexeme). is_name l.kind ≡ true) w.0 w.1) refl w.2)

pub FunctionOpen_leads : (now : ℤ) (s : Progress) (q : Rest states.FunctionOpen) (t : Lexeme) (ts : List Lexeme) (reach : Reach)
    → ReadsTokens (left_at states.FunctionOpen now (at states.FunctionOpen s) q) (t ∷ ts) reach
    → Leads now (at states.FunctionOpen s) q ts reach (selecting s states.FunctionOpen (select_at states.FunctionOpen t.kind t s.builder.selection))
FunctionOpen_leads now s q t ts reach w =
    subst (λ (k : Kind). Leads now (at states.FunctionOpen s) q ts reach (select_steps s states.FunctionOpen t k)) (sym w.0) (q, tt, w.1, refl)

same_field_leads : (now : ℤ) (s : Progress) (l : Lexeme) (r : Rest states.FieldEnd) (ts : List Lexeme) (reach : Reach) (field : Text) (b : Bool) → bytes_eq field (named l) ≡ b
    → ReadsTokens (Examine (field_fault (Some field) l) ∷ left_at states.FieldEnd now (fielded s (Some field)) r) ts reach
    → Leads now (at states.Field (fielded s (Some field))) (l, r) ts reach
    (selecting (fielded s (Some field)) states.Field (if b then Ok (states.FieldEnd, (fielded s (Some field)).builder.selection) else Err (unsupported l)))
same_field_leads now s l r ts reach field true v w =
    (r, tt, passed (field_fault (Some field) l) _ ts reach (ap (λ (b : Bool). if b then None else Some (unsupported l)) v) w, refl)
same_field_leads now s l r ts reach field false v w =
    failed (field_fault (Some field) l) _ ts reach (unsupported l) (ap (λ (b : Bool). if b then None else Some (unsupported l)) v) w

field_leads_by : (now : ℤ) (s : Progress) (l : Lexeme) (r : Rest states.FieldEnd) (ts : List Lexeme) (reach : Reach) (o : Option Text)
    → ReadsTokens (Examine (field_fault o l) ∷ left_at states.FieldEnd now (fielded s (field_after o l)) r) ts reach
    → Leads now (at states.Field (fielded s o)) (l, r) ts reach (selecting (fielded s o) states.Field (steps.with_call_field l (fielded s o).builder.selection o))
field_leads_by now s l r ts reach None w = (r, tt, w, refl)
field_leads_by now s l r ts reach (Some field) w = same_field_leads now s l r ts reach field (bytes_eq field (named l)) refl w

field_leads_at : (now : ℤ) (s : Progress) (l : Lexeme) (r : Rest states.FieldEnd) (ts : List Lexeme) (reach : Reach)
    → ReadsTokens (Examine (field_fault s.builder.selection.field l) ∷ left_at states.FieldEnd now (fielded s (field_after s.builder.selection.field l)) r) ts reach
    → (k : Kind) → is_name k ≡ true → Leads now (at states.Field s) (l, r) ts reach (select_steps s states.Field l k)
field_leads_at now s l r ts reach w =
    by_name (λ (k : Kind). Leads now (at states.Field s) (l, r) ts reach (select_steps s states.Field l k))
    (field_leads_by now s l r ts reach s.builder.selection.field w) (field_leads_by now s l r ts reach s.builder.selection.field w)

pub Field_leads : (now : ℤ) (s : Progress) (q : Rest states.Field) (t : Lexeme) (ts : List Lexeme) (reach : Reach)
    → ReadsTokens (left_at states.Field now (at states.Field s) q) (t ∷ ts) reach
    → Leads now (at states.Field s) q ts reach (selecting s states.Field (select_at states.Field t.kind t s.builder.selection))
Field_leads now s q t ts reach w =
    subst (λ (l : Lexeme). Leads now (at states.Field s) q ts reach (select_steps s states.Field l l.kind)) (sym w.0)
    (field_leads_at now s q.0 q.1 ts reach w.2 q.0.kind (subst (λ (l : Lexeme). is_name l.kind ≡ true) w.0 w.1))

-- a field ends with a type or without
field_end_leads : (now : ℤ) (s : Progress) (o : Option FieldType) (r : ClosedTail) (t : Lexeme) (ts : List Lexeme) (reach : Reach)
    → ReadsTokens (left_at states.FieldEnd now (at states.FieldEnd s) (o, r)) (t ∷ ts) reach
    → Leads now (at states.FieldEnd s) (o, r) ts reach (select_steps s states.FieldEnd t t.kind)
field_end_leads now s None r t ts reach w =
    subst (λ (k : Kind). Leads now (at states.FieldEnd s) (None, r) ts reach (select_steps s states.FieldEnd t k)) (sym w.0) (r, tt, w.1, refl)
field_end_leads now s (Some type) r t ts reach w =
    subst (λ (k : Kind). Leads now (at states.FieldEnd s) (Some type, r) ts reach (select_steps s states.FieldEnd t k)) (sym w.0) ((type, r), tt, w.1, refl)

pub FieldEnd_leads : (now : ℤ) (s : Progress) (q : Rest states.FieldEnd) (t : Lexeme) (ts : List Lexeme) (reach : Reach)
    → ReadsTokens (left_at states.FieldEnd now (at states.FieldEnd s) q) (t ∷ ts) reach
    → Leads now (at states.FieldEnd s) q ts reach (selecting s states.FieldEnd (select_at states.FieldEnd t.kind t s.builder.selection))
FieldEnd_leads now s q t ts reach w = field_end_leads now s q.0 q.1 t ts reach w

-- the step with a word that names the one type, or the other
abbrev pub typed : Progress → Lexeme → Bool → Bool → Advance
typed s t field integer = selecting s states.FieldType (if field || integer then Ok (states.FieldClose, s.builder.selection) else Err (unexpected t))

field_type_leads : (now : ℤ) (s : Progress) (type : FieldType) (r : ClosedTail) (t : Lexeme) (ts : List Lexeme) (reach : Reach)
    → ReadsTokens (left_at states.FieldType now (at states.FieldType s) (type, r)) (t ∷ ts) reach
    → Leads now (at states.FieldType s) (type, r) ts reach (select_steps s states.FieldType t t.kind)
field_type_leads now s Field r t ts reach w =
    subst (λ (k : Kind). Leads now (at states.FieldType s) (Field, r) ts reach (select_steps s states.FieldType t k)) (sym w.0.0)
    (subst (λ (b : Bool). Leads now (at states.FieldType s) (Field, r) ts reach (typed s t b (is_word (codes "integer") t.text))) (sym w.0.1) (r, tt, w.1, refl))
field_type_leads now s Integer r t ts reach w =
    let other : is_word (codes "field") t.text ≡ false = another_word (codes "integer") (codes "field") t.text w.0.1 refl in
    subst (λ (k : Kind). Leads now (at states.FieldType s) (Integer, r) ts reach (select_steps s states.FieldType t k)) (sym w.0.0)
    (subst (λ (b : Bool). Leads now (at states.FieldType s) (Integer, r) ts reach (typed s t b (is_word (codes "integer") t.text))) (sym other)
    (subst (λ (b : Bool). Leads now (at states.FieldType s) (Integer, r) ts reach (typed s t false b)) (sym w.0.1) (r, tt, w.1, refl)))

pub FieldType_leads : (now : ℤ) (s : Progress) (q : Rest states.FieldType) (t : Lexeme) (ts : List Lexeme) (reach : Reach)
    → ReadsTokens (left_at states.FieldType now (at states.FieldType s) q) (t ∷ ts) reach
    → Leads now (at states.FieldType s) q ts reach (selecting s states.FieldType (select_at states.FieldType t.kind t s.builder.selection))
FieldType_leads now s q t ts reach w = field_type_leads now s q.0 q.1 t ts reach w

pub FieldClose_leads : (now : ℤ) (s : Progress) (q : Rest states.FieldClose) (t : Lexeme) (ts : List Lexeme) (reach : Reach)
    → ReadsTokens (left_at states.FieldClose now (at states.FieldClose s) q) (t ∷ ts) reach
    → Leads now (at states.FieldClose s) q ts reach (selecting s states.FieldClose (select_at states.FieldClose t.kind t s.builder.selection))
FieldClose_leads now s q t ts reach w =
    subst (λ (k : Kind). Leads now (at states.FieldClose s) q ts reach (select_steps s states.FieldClose t k)) (sym w.0) (q, tt, w.1, refl)

-- the step with a keyword after a column
abbrev pub behind_column : Progress → Lexeme → Bool → Bool → Advance
behind_column s t from named_as = selecting s states.AfterColumn (if from then Ok (states.Measurement, with_default s.builder.selection)
    else if named_as then Ok (states.Alias, s.builder.selection) else Err (unexpected t))

after_column_leads : (now : ℤ) (s : Progress) (o : Option Lexeme) (more : List Call) (r : FromClause × FilterTail) (t : Lexeme) (ts : List Lexeme) (reach : Reach)
    → ReadsTokens (left_at states.AfterColumn now (at states.AfterColumn s) (o, (more, r))) (t ∷ ts) reach
    → Leads now (at states.AfterColumn s) (o, (more, r)) ts reach (select_steps s states.AfterColumn t t.kind)
after_column_leads now s None [] r t ts reach w =
    subst (λ (k : Kind). Leads now (at states.AfterColumn s) (None, ([], r)) ts reach (select_steps s states.AfterColumn t k)) (sym w.0.0)
    (subst (λ (b : Bool). Leads now (at states.AfterColumn s) (None, ([], r)) ts reach (behind_column s t b (is_word (codes "as") t.text))) (sym w.0.1) (r, tt, w.1, refl))
after_column_leads now s None (a ∷ more) r t ts reach w =
    subst (λ (k : Kind). Leads now (at states.AfterColumn s) (None, (a ∷ more, r)) ts reach (select_steps s states.AfterColumn t k)) (sym w.0) ((a, (more, r)), tt, w.1, refl)
after_column_leads now s (Some alias) more r t ts reach w =
    let other : is_word (codes "from") t.text ≡ false = another_word (codes "as") (codes "from") t.text w.0.1 refl in
    subst (λ (k : Kind). Leads now (at states.AfterColumn s) (Some alias, (more, r)) ts reach (select_steps s states.AfterColumn t k)) (sym w.0.0)
    (subst (λ (b : Bool). Leads now (at states.AfterColumn s) (Some alias, (more, r)) ts reach (behind_column s t b (is_word (codes "as") t.text))) (sym other)
    (subst (λ (b : Bool). Leads now (at states.AfterColumn s) (Some alias, (more, r)) ts reach (behind_column s t false b)) (sym w.0.1)
    ((alias, (more, r)), tt, w.1, refl)))

pub AfterColumn_leads : (now : ℤ) (s : Progress) (q : Rest states.AfterColumn) (t : Lexeme) (ts : List Lexeme) (reach : Reach)
    → ReadsTokens (left_at states.AfterColumn now (at states.AfterColumn s) q) (t ∷ ts) reach
    → Leads now (at states.AfterColumn s) q ts reach (selecting s states.AfterColumn (select_at states.AfterColumn t.kind t s.builder.selection))
AfterColumn_leads now s q t ts reach w = after_column_leads now s q.0 q.1.0 q.1.1 t ts reach w

alias_leads_at : (now : ℤ) (s : Progress) (l : Lexeme) (r : SelectTail) (ts : List Lexeme) (reach : Reach)
    → ReadsTokens (left_at states.AfterAlias now (with_alias s l) r) ts reach
    → (k : Kind) → is_name k ≡ true → Leads now (at states.Alias s) (l, r) ts reach (select_steps s states.Alias l k)
alias_leads_at now s l r ts reach w =
    by_name (λ (k : Kind). Leads now (at states.Alias s) (l, r) ts reach (select_steps s states.Alias l k)) (r, tt, w, refl) (r, tt, w, refl)

pub Alias_leads : (now : ℤ) (s : Progress) (q : Rest states.Alias) (t : Lexeme) (ts : List Lexeme) (reach : Reach)
    → ReadsTokens (left_at states.Alias now (at states.Alias s) q) (t ∷ ts) reach
    → Leads now (at states.Alias s) q ts reach (selecting s states.Alias (select_at states.Alias t.kind t s.builder.selection))
Alias_leads now s q t ts reach w =
    subst (λ (l : Lexeme). Leads now (at states.Alias s) q ts reach (select_steps s states.Alias l l.kind)) (sym w.0)
    (alias_leads_at now s q.0 q.1 ts reach w.2 q.0.kind (subst (λ (l : Lexeme). is_name l.kind ≡ true) w.0 w.1))

after_alias_leads : (now : ℤ) (s : Progress) (more : List Call) (r : FromClause × FilterTail) (t : Lexeme) (ts : List Lexeme) (reach : Reach)
    → ReadsTokens (left_at states.AfterAlias now (at states.AfterAlias s) (more, r)) (t ∷ ts) reach
    → Leads now (at states.AfterAlias s) (more, r) ts reach (select_steps s states.AfterAlias t t.kind)
after_alias_leads now s [] r t ts reach w =
    subst (λ (k : Kind). Leads now (at states.AfterAlias s) ([], r) ts reach (select_steps s states.AfterAlias t k)) (sym w.0.0)
    (subst (λ (b : Bool). Leads now (at states.AfterAlias s) ([], r) ts reach
    (selecting s states.AfterAlias (if b then Ok (states.Measurement, s.builder.selection) else Err (unexpected t)))) (sym w.0.1) (r, tt, w.1, refl))
after_alias_leads now s (a ∷ more) r t ts reach w =
    subst (λ (k : Kind). Leads now (at states.AfterAlias s) (a ∷ more, r) ts reach (select_steps s states.AfterAlias t k)) (sym w.0) ((a, (more, r)), tt, w.1, refl)

pub AfterAlias_leads : (now : ℤ) (s : Progress) (q : Rest states.AfterAlias) (t : Lexeme) (ts : List Lexeme) (reach : Reach)
    → ReadsTokens (left_at states.AfterAlias now (at states.AfterAlias s) q) (t ∷ ts) reach
    → Leads now (at states.AfterAlias s) q ts reach (selecting s states.AfterAlias (select_at states.AfterAlias t.kind t s.builder.selection))
AfterAlias_leads now s q t ts reach w = after_alias_leads now s q.0 q.1 t ts reach w

-- a measurement leads on, and a subquery is left out
source_leads_at : (now : ℤ) (s : Progress) (l : Lexeme) (r : FilterTail) (ts : List Lexeme) (reach : Reach)
    → ReadsTokens (left_at states.AfterMeasurement now (with_measurement s l) r) ts reach
    → (k : Kind) → is_name k ≡ true → Leads now (at states.Measurement s) (Measurement l, r) ts reach (select_steps s states.Measurement l k)
source_leads_at now s l r ts reach w =
    by_name (λ (k : Kind). Leads now (at states.Measurement s) (Measurement l, r) ts reach (select_steps s states.Measurement l k)) (r, tt, w, refl) (r, tt, w, refl)

source_leads : (now : ℤ) (s : Progress) (source : FromClause) (r : FilterTail) (t : Lexeme) (ts : List Lexeme) (reach : Reach)
    → ReadsTokens (left_at states.Measurement now (at states.Measurement s) (source, r)) (t ∷ ts) reach
    → Leads now (at states.Measurement s) (source, r) ts reach (select_steps s states.Measurement t t.kind)
source_leads now s (Measurement l) r t ts reach w =
    subst (λ (x : Lexeme). Leads now (at states.Measurement s) (Measurement l, r) ts reach (select_steps s states.Measurement x x.kind)) (sym w.0)
    (source_leads_at now s l r ts reach w.2 l.kind (subst (λ (x : Lexeme). is_name x.kind ≡ true) w.0 w.1))
source_leads now s (Subquery l) r t ts reach w =
    subst (λ (k : Kind). Leads now (at states.Measurement s) (Subquery l, r) ts reach (select_steps s states.Measurement t k)) (sym w.1)
    (failed (Some (unsupported l)) (left_filter now s (after_from (meaning s.builder) (Subquery l)) r) ts reach (unsupported t) (ap (λ (x : Lexeme). Some (unsupported x)) (sym w.0)) w.2)

pub Measurement_leads : (now : ℤ) (s : Progress) (q : Rest states.Measurement) (t : Lexeme) (ts : List Lexeme) (reach : Reach)
    → ReadsTokens (left_at states.Measurement now (at states.Measurement s) q) (t ∷ ts) reach
    → Leads now (at states.Measurement s) q ts reach (selecting s states.Measurement (select_at states.Measurement t.kind t s.builder.selection))
Measurement_leads now s q t ts reach w = source_leads now s q.0 q.1 t ts reach w
