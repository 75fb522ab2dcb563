-- The end of a text: it has been read once a step takes its end.
use Rattle.std.proofs.Common.{◌≡◌, ℕ, ◌+◌, ◌-◌, ℤ, pos, Bool, true, false, eqb, ◌&&◌, ◌||◌, codes, refl, sym, subst, ◌∙◌, Option, Some, None, Result, Ok, Err}
use Rattle.std.proofs.lemmas.Bool.{cond_both, and_parts}
use Rattle.std.specs.Prelude.{if◌then◌else◌, nat_lt, nat_le, int_le, bytes_eq}
use Rattle.ts_core.specs.facts.Facts.{Text}
use Rattle.ts_ql.specs.declared.filling.FillClause.{FillClause}
use Rattle.ts_ql.specs.declared.moment.Moment.{Moment}
use Rattle.ts_ql.specs.declared.state.State.{State}
use Rattle.ts_ql.specs.declared.state.State.TheVariants as states
use Rattle.ts_core.specs.declared.queries.fill.Fill.TheVariants as fills
use Rattle.ts_core.specs.declared.queries.value.Function.{Function}
use Rattle.ts_core.specs.declared.aggregates.bucket.Buckets.{Buckets}
use Rattle.ts_ql.specs.declared.token.Kind.{Kind}
use Rattle.ts_ql.specs.declared.token.Kind.TheVariants as kinds
use Rattle.ts_ql.specs.Dates.{timestamp_of}
use Rattle.ts_ql.specs.QueryFaults.{Fault, unexpected, unsupported, TooManyStatements, OutOfRange}
use Rattle.ts_ql.specs.GroupSteps.{Grouped, grouping_at, group_step, item_at, time_item, with_interval, with_offset, fill_at, fill_step, with_number, chosen}
use Rattle.ts_ql.specs.Builders.{BuilderState, meaning}
use Rattle.ts_ql.specs.Literals.{is_word, literal, text_spelled}
use Rattle.ts_ql.specs.MomentSteps.{moment_at, moment_step, based, later_by, earlier_by}
use Rattle.ts_ql.specs.declared.state.Clause.{Clause}
use Rattle.ts_ql.specs.declared.state.Clause.TheVariants as clauses
use Rattle.ts_ql.specs.Reading.{BuilderResult, finish_time_step, in_selection, in_filter, in_moment, in_groups, in_filling, clause_of, builder_at, builder_step, group_alone, fill_alone, clause_at, next_clause, is_end, may_end, Progress, Advance, begun_at, begun, after_end, ended_with, ended, with_builder, clause_or, continued, placed_at, after_finishing_time, step, is_done, is_outside}
use Rattle.ts_ql.specs.Selects.{Select, inserted_text, of_interval}
use Rattle.ts_ql.specs.SelectSteps.{Selected, select_at, select_step, with_function, with_call_field, with_default}
use Rattle.ts_ql.specs.Statements.{statement_query}
use Rattle.ts_ql.specs.Tokenizing.{is_end_of_text}
use Rattle.ts_ql.specs.Tokens.{Lexeme}
use Rattle.ts_ql.specs.WhereSteps.{Filtered, where_at, where_step, term_at, after_term}
use Rattle.ts_ql.specs.Keywords.{function_called, is_time_column, named}

-- ---- within a statement

-- the next state is `Done` exactly if the token is the end of the text
abbrev Moves : {X : Type 0} → Kind → Result (State × X) Fault → Type 0
Moves k (Ok p) = is_done p.0 ≡ is_end_of_text k
Moves k (Err fault) = Unit {0}

moves_if : {X : Type 0} (k : Kind) (test : Bool) (one other : Result (State × X) Fault) → Moves k one → Moves k other → Moves k (if test then one else other)
moves_if k true one other a b = a
moves_if k false one other a b = b

function_moves : (t : Lexeme) (s : Selected) (o : Option Function) → Moves kinds.Word (with_function t s o)
function_moves t s None = tt
function_moves t s (Some f) = refl

field_moves : (k : Kind) (t : Lexeme) (s : Selected) (o : Option Text) → is_end_of_text k ≡ false → Moves k (with_call_field t s o)
field_moves k t s None other = sym other
field_moves k t s (Some field) other = moves_if k (bytes_eq field (named t)) (Ok (states.FieldEnd, s)) (Err (unsupported t)) (sym other) tt

select_moves : (p : State) (k : Kind) (t : Lexeme) (s : Selected) → Moves k (select_at p k t s)
select_moves states.Function kinds.Word t s = function_moves t s (function_called t.text)
select_moves states.Function kinds.QuotedName t s = tt
select_moves states.FunctionOpen kinds.LeftParen t s = refl
select_moves states.Field kinds.Word t s = field_moves kinds.Word t s s.field refl
select_moves states.Field kinds.QuotedName t s = field_moves kinds.QuotedName t s s.field refl
select_moves states.FieldEnd kinds.RightParen t s = refl
select_moves states.FieldEnd kinds.DoubleColon t s = refl
select_moves states.FieldType kinds.Word t s = moves_if kinds.Word (is_word (codes "field") t.text || is_word (codes "integer") t.text) (Ok (states.FieldClose, s)) (Err (unexpected t)) refl tt
select_moves states.FieldClose kinds.RightParen t s = refl
select_moves states.AfterColumn kinds.Comma t s = refl
select_moves states.AfterColumn kinds.Keyword t s =
    moves_if kinds.Keyword (is_word (codes "from") t.text) (Ok (states.Measurement, with_default s)) (if is_word (codes "as") t.text then Ok (states.Alias, s) else Err (unexpected t)) refl
    (moves_if kinds.Keyword (is_word (codes "as") t.text) (Ok (states.Alias, s)) (Err (unexpected t)) refl tt)
select_moves states.Alias kinds.Word t s = refl
select_moves states.Alias kinds.QuotedName t s = refl
select_moves states.AfterAlias kinds.Comma t s = refl
select_moves states.AfterAlias kinds.Keyword t s = moves_if kinds.Keyword (is_word (codes "from") t.text) (Ok (states.Measurement, s)) (Err (unexpected t)) refl tt
select_moves states.Measurement kinds.Word t s = refl
select_moves states.Measurement kinds.QuotedName t s = refl
select_moves states.Measurement kinds.LeftParen t s = tt
select_moves p k t s = tt

-- ---- outside of SELECT

-- the next state is outside of SELECT, and the token isn't the end of the text
abbrev pub Within : {X : Type 0} → Kind → Result (State × X) Fault → Type 0
Within k (Ok p) = (is_outside p.0 ≡ true) × (is_end_of_text k ≡ false)
Within k (Err fault) = Unit {0}

within_if : {X : Type 0} (k : Kind) (test : Bool) (one other : Result (State × X) Fault) → Within k one → Within k other → Within k (if test then one else other)
within_if k true one other a b = a
within_if k false one other a b = b

outside_done : (p : State) → is_outside p ≡ true → is_done p ≡ false
outside_done states.Done e = absurd (cc)
outside_done p e = refl

within_moves : {X : Type 0} (k : Kind) (r : Result (State × X) Fault) → Within k r → Moves k r
within_moves k (Ok p) w = outside_done p.0 w.0 ∙ sym w.1
within_moves k (Err fault) w = tt

after_term_outside : (depth : ℕ) → is_outside (after_term depth) ≡ true
after_term_outside depth = cond_both (eqb depth 0) states.AfterTerm states.NestedTerm (λ p. is_outside p ≡ true) (λ e. refl) (λ e. refl)

term_within : (k : Kind) (t : Lexeme) (f : Filtered) → is_end_of_text k ≡ false → Within k (term_at t f)
term_within k t f other = within_if k (is_time_column t.kind t.text) (Ok (states.TimeSign, f)) (Ok (states.TagEnd, record f { tag = text_spelled t.text })) (refl, other) (refl, other)

pub where_within : (p : State) (k : Kind) (t : Lexeme) (f : Filtered) → Within k (where_at p k t f)
where_within states.Term kinds.LeftParen t f = within_if kinds.LeftParen (nat_lt f.depth 32) (Ok (states.Term, record f { depth = f.depth + 1 })) (Err (unsupported t)) (refl, refl) tt
where_within states.Term kinds.Word t f = term_within kinds.Word t f refl
where_within states.Term kinds.QuotedName t f = term_within kinds.QuotedName t f refl
where_within states.TagEnd kinds.DoubleColon t f = (refl, refl)
where_within states.TagEnd kinds.Equals t f = (refl, refl)
where_within states.TagEnd kinds.NotEqual t f = (refl, refl)
where_within states.TagType kinds.Word t f = within_if kinds.Word (is_word (codes "tag") t.text) (Ok (states.TagSign, f)) (Err (unexpected t)) (refl, refl) tt
where_within states.TagSign kinds.Equals t f = (refl, refl)
where_within states.TagSign kinds.NotEqual t f = (refl, refl)
where_within states.TagValue kinds.StringLiteral t f = (after_term_outside f.depth, refl)
where_within states.AfterTerm kinds.Keyword t f = within_if kinds.Keyword (is_word (codes "and") t.text) (Ok (states.Term, f)) (Err (unexpected t)) (refl, refl) tt
where_within states.NestedTerm kinds.Keyword t f = within_if kinds.Keyword (is_word (codes "and") t.text) (Ok (states.Term, f)) (Err (unexpected t)) (refl, refl) tt
where_within states.NestedTerm kinds.RightParen t f =
    within_if kinds.RightParen (nat_lt 0 f.depth) (Ok (after_term (f.depth - 1), record f { depth = f.depth - 1 })) (Err (unexpected t)) (after_term_outside (f.depth - 1), refl) tt
where_within p k t f = tt

based_within : (k : Kind) (first : ℕ) (m : Moment) (o : Option ℤ) → is_end_of_text k ≡ false → Within k (based first m o)
based_within k first m None other = tt
based_within k first m (Some value) other = (refl, other)

later_within : (t : Lexeme) (m : Moment) (o : Option ℤ) → Within kinds.Duration (later_by t m o)
later_within t m None = tt
later_within t m (Some value) = (refl, refl)

earlier_within : (t : Lexeme) (m : Moment) (o : Option ℤ) → Within kinds.Duration (earlier_by t m o)
earlier_within t m None = tt
earlier_within t m (Some value) = (refl, refl)

pub moment_within : (now : ℤ) (p : State) (k : Kind) (t : Lexeme) (m : Moment) → Within k (moment_at now p k t m)
moment_within now states.TimeSign kinds.Equals t m = (refl, refl)
moment_within now states.TimeSign kinds.Less t m = (refl, refl)
moment_within now states.TimeSign kinds.LessOrEqual t m = (refl, refl)
moment_within now states.TimeSign kinds.Greater t m = (refl, refl)
moment_within now states.TimeSign kinds.GreaterOrEqual t m = (refl, refl)
moment_within now states.Moment kinds.Minus t m = (refl, refl)
moment_within now states.Moment kinds.Integer t m = based_within kinds.Integer t.start m (literal false t.text) refl
moment_within now states.Moment kinds.Duration t m = based_within kinds.Duration t.start m (literal false t.text) refl
moment_within now states.Moment kinds.StringLiteral t m = based_within kinds.StringLiteral t.start m (timestamp_of t.text) refl
moment_within now states.Moment kinds.Word t m = within_if kinds.Word (is_word (codes "now") t.text) (Ok (states.NowOpen, record m { first = t.start })) (Err (unexpected t)) (refl, refl) tt
moment_within now states.MomentMinus kinds.Integer t m = based_within kinds.Integer m.first m (literal true t.text) refl
moment_within now states.MomentMinus kinds.Duration t m = based_within kinds.Duration m.first m (literal true t.text) refl
moment_within now states.NowOpen kinds.LeftParen t m = (refl, refl)
moment_within now states.NowClose kinds.RightParen t m = (refl, refl)
moment_within now states.AfterMoment kinds.Plus t m = (refl, refl)
moment_within now states.AfterMoment kinds.Minus t m = (refl, refl)
moment_within now states.MomentPlus kinds.Duration t m = later_within t m (literal false t.text)
moment_within now states.MomentLess kinds.Duration t m = earlier_within t m (literal false t.text)
moment_within now p k t m = tt

time_item_within : (k : Kind) (t : Lexeme) (g : Grouped) (o : Option Buckets) → is_end_of_text k ≡ false → Within k (time_item t g o)
time_item_within k t g None other = (refl, other)
time_item_within k t g (Some b) other = tt

item_within : (k : Kind) (t : Lexeme) (g : Grouped) → is_end_of_text k ≡ false → Within k (item_at t g)
item_within k t g other = within_if k (is_time_column t.kind t.text) (time_item t g g.buckets) (Ok (states.AfterTag, record g { tags = inserted_text (text_spelled t.text) g.tags })) (time_item_within k t g g.buckets other) (refl, other)

interval_within : (t : Lexeme) (g : Grouped) (o : Option ℤ) → Within kinds.Duration (with_interval t g o)
interval_within t g None = tt
interval_within t g (Some interval) = within_if kinds.Duration (int_le (pos 1) interval) (Ok (states.IntervalEnd, record g { buckets = of_interval interval })) (Err (OutOfRange t.start)) (refl, refl) tt

offset_within : (first : ℕ) (g : Grouped) (o : Option ℤ) → Within kinds.Duration (with_offset first g o)
offset_within first g None = tt
offset_within first g (Some offset) = (refl, refl)

pub group_within : (p : State) (k : Kind) (t : Lexeme) (g : Grouped) → Within k (grouping_at p k t g)
group_within states.GroupBy kinds.Keyword t g = within_if kinds.Keyword (is_word (codes "by") t.text) (Ok (states.Item, g)) (Err (unexpected t)) (refl, refl) tt
group_within states.Item kinds.Word t g = item_within kinds.Word t g refl
group_within states.Item kinds.QuotedName t g = item_within kinds.QuotedName t g refl
group_within states.TimeOpen kinds.LeftParen t g = (refl, refl)
group_within states.Interval kinds.Duration t g = interval_within t g (literal false t.text)
group_within states.IntervalEnd kinds.Comma t g = (refl, refl)
group_within states.IntervalEnd kinds.RightParen t g = (refl, refl)
group_within states.Offset kinds.Minus t g = (refl, refl)
group_within states.Offset kinds.Duration t g = offset_within t.start g (literal false t.text)
group_within states.OffsetMinus kinds.Duration t g = offset_within g.first g (literal true t.text)
group_within states.OffsetEnd kinds.RightParen t g = (refl, refl)
group_within states.AfterTag kinds.DoubleColon t g = (refl, refl)
group_within states.AfterTag kinds.Comma t g = (refl, refl)
group_within states.GroupTagType kinds.Word t g = within_if kinds.Word (is_word (codes "tag") t.text) (Ok (states.AfterItem, g)) (Err (unexpected t)) (refl, refl) tt
group_within states.AfterItem kinds.Comma t g = (refl, refl)
group_within p k t g = tt

number_within : (first : ℕ) (f : FillClause) (o : Option ℤ) → Within kinds.Integer (with_number first f o)
number_within first f None = tt
number_within first f (Some n) = (refl, refl)

pub fill_within : (p : State) (k : Kind) (t : Lexeme) (f : FillClause) → Within k (fill_at p k t f)
fill_within states.FillOpen kinds.LeftParen t f = (refl, refl)
fill_within states.FillOption kinds.Word t f =
    within_if kinds.Word (is_word (codes "null") t.text) (chosen fills.Null f)
    (if is_word (codes "none") t.text then chosen fills.None f else if is_word (codes "previous") t.text then chosen fills.Previous f else Err (unexpected t)) (refl, refl)
    (within_if kinds.Word (is_word (codes "none") t.text) (chosen fills.None f) (if is_word (codes "previous") t.text then chosen fills.Previous f else Err (unexpected t)) (refl, refl)
    (within_if kinds.Word (is_word (codes "previous") t.text) (chosen fills.Previous f) (Err (unexpected t)) (refl, refl) tt))
fill_within states.FillOption kinds.Minus t f = (refl, refl)
fill_within states.FillOption kinds.Integer t f = number_within t.start f (literal false t.text)
fill_within states.FillMinus kinds.Integer t f = number_within f.first f (literal true t.text)
fill_within states.FillClose kinds.RightParen t f = (refl, refl)
fill_within p k t f = tt

selection_moves : (k : Kind) (d : BuilderState) (r : Result (State × Selected) Fault) → Moves k r → Moves k (in_selection d r)
selection_moves k d (Ok p) m = m
selection_moves k d (Err fault) m = tt

filter_moves : (k : Kind) (d : BuilderState) (r : Result (State × Filtered) Fault) → Moves k r → Moves k (in_filter d r)
filter_moves k d (Ok p) m = m
filter_moves k d (Err fault) m = tt

in_moment_moves : (k : Kind) (d : BuilderState) (r : Result (State × Moment) Fault) → Moves k r → Moves k (in_moment d r)
in_moment_moves k d (Ok p) m = m
in_moment_moves k d (Err fault) m = tt

in_groups_moves : (k : Kind) (d : BuilderState) (r : Result (State × Grouped) Fault) → Moves k r → Moves k (in_groups d r)
in_groups_moves k d (Ok p) m = m
in_groups_moves k d (Err fault) m = tt

filling_moves : (k : Kind) (d : BuilderState) (r : Result (State × FillClause) Fault) → Moves k r → Moves k (in_filling d r)
filling_moves k d (Ok p) m = m
filling_moves k d (Err fault) m = tt

builder_at_moves : (c : Clause) (now : ℤ) (p : State) (t : Lexeme) (d : BuilderState) → Moves t.kind (builder_at c now p t d)
unfolding select_step where_step moment_step group_step fill_step
builder_at_moves clauses.Select now p t d = selection_moves t.kind d (select_at p t.kind t d.selection) (select_moves p t.kind t d.selection)
builder_at_moves clauses.Where now p t d = filter_moves t.kind d (where_at p t.kind t d.filter) (within_moves t.kind (where_at p t.kind t d.filter) (where_within p t.kind t d.filter))
builder_at_moves clauses.Moment now p t d = in_moment_moves t.kind d (moment_at now p t.kind t d.moment) (within_moves t.kind (moment_at now p t.kind t d.moment) (moment_within now p t.kind t d.moment))
builder_at_moves clauses.Group now p t d = in_groups_moves t.kind d (grouping_at p t.kind t d.groups) (within_moves t.kind (grouping_at p t.kind t d.groups) (group_within p t.kind t d.groups))
builder_at_moves clauses.Fill now p t d = filling_moves t.kind d (fill_at p t.kind t d.filling) (within_moves t.kind (fill_at p t.kind t d.filling) (fill_within p t.kind t d.filling))
builder_at_moves clauses.None now p t d = tt

builder_moves : (now : ℤ) (p : State) (t : Lexeme) (d : BuilderState) → Moves t.kind (builder_step now p t d)
unfolding builder_step
builder_moves now p t d = builder_at_moves (clause_of p) now p t d

-- ---- from clause to clause

abbrev Opens : Kind → Option State → Type 0
Opens k None = Unit {0}
Opens k (Some next) = is_done next ≡ is_end_of_text k

opens_if : (k : Kind) (test : Bool) (next : State) (other : Option State) → is_done next ≡ is_end_of_text k → Opens k other → Opens k (if test then Some next else other)
opens_if k true next other a b = a
opens_if k false next other a b = b

group_opens : (text : Text) → Opens kinds.Keyword (group_alone text)
group_opens text = opens_if kinds.Keyword (is_word (codes "group") text) states.GroupBy None refl tt

fill_opens : (text : Text) → Opens kinds.Word (fill_alone text)
fill_opens text = opens_if kinds.Word (is_word (codes "fill") text) states.FillOpen None refl tt

clause_opens : (p : State) (k : Kind) (text : Text) → Opens k (clause_at p k text)
clause_opens states.AfterMeasurement kinds.Keyword text = opens_if kinds.Keyword (is_word (codes "where") text) states.Term (group_alone text) refl (group_opens text)
clause_opens states.AfterTerm kinds.Keyword text = group_opens text
clause_opens states.AfterMeasurement kinds.Word text = fill_opens text
clause_opens states.AfterTerm kinds.Word text = fill_opens text
clause_opens states.AfterTag kinds.Word text = fill_opens text
clause_opens states.AfterItem kinds.Word text = fill_opens text
clause_opens p k text = tt

next_opens : (p : State) (t : Lexeme) → Opens t.kind (next_clause p t)
unfolding next_clause
next_opens p t = clause_opens p t.kind t.text

-- ---- statements

abbrev MovesTo : Kind → Advance → Type 0
MovesTo k (Ok s) = is_done s.state ≡ is_end_of_text k
MovesTo k (Err fault) = Unit {0}

moves_to_if : (k : Kind) (test : Bool) (one other : Advance) → (test ≡ true → MovesTo k one) → MovesTo k other → MovesTo k (if test then one else other)
moves_to_if k true one other a b = a refl
moves_to_if k false one other a b = b

begun_at_moves : (k : Kind) (t : Lexeme) (s : Progress) → MovesTo k (begun_at k t s)
begun_at_moves kinds.Keyword t s =
    moves_to_if kinds.Keyword (is_word (codes "select") t.text) (if nat_le 16 s.count then Err (TooManyStatements t.start) else Ok (record s { state = states.Function; count = s.count + 1; start = t.start })) (Err (unexpected t))
    (λ _. moves_to_if kinds.Keyword (nat_le 16 s.count) (Err (TooManyStatements t.start)) (Ok (record s { state = states.Function; count = s.count + 1; start = t.start })) (λ _. tt) refl) tt
begun_at_moves kinds.End t s = moves_to_if kinds.End (eqb s.count 0) (Err (unexpected t)) (Ok (record s { state = states.Done })) (λ _. tt) refl
begun_at_moves k t s = tt

begun_moves : (t : Lexeme) (s : Progress) → MovesTo t.kind (begun t s)
unfolding begun
begun_moves t s = begun_at_moves t.kind t s

after_end_moves : (k : Kind) → is_end k ≡ true → is_done (after_end k) ≡ is_end_of_text k
after_end_moves kinds.Semicolon e = refl
after_end_moves kinds.End e = refl
after_end_moves k e = absurd (cc)

ended_moves : (k : Kind) (s : Progress) (r : Result Select Fault) → is_end k ≡ true → MovesTo k (ended_with k s r)
ended_moves k s (Ok q) e = after_end_moves k e
ended_moves k s (Err fault) e = tt

with_builder_moves : (k : Kind) (s : Progress) (r : BuilderResult) → Moves k r → MovesTo k (with_builder s r)
with_builder_moves k s (Ok p) m = m
with_builder_moves k s (Err fault) m = tt

clause_moves : (now : ℤ) (t : Lexeme) (s : Progress) (o : Option State) → Opens t.kind o → MovesTo t.kind (clause_or now t s o)
clause_moves now t s None opens = with_builder_moves t.kind s (builder_step now s.state t s.builder) (builder_moves now s.state t s.builder)
clause_moves now t s (Some next) opens = opens

continued_moves : (now : ℤ) (t : Lexeme) (s : Progress) → MovesTo t.kind (continued now t s)
continued_moves now t s =
    moves_to_if t.kind (may_end s.state && is_end t.kind) (ended now t.kind s) (clause_or now t s (next_clause s.state t))
    (λ e. ended_moves t.kind s (statement_query s.start now (meaning s.builder)) (and_parts (may_end s.state) (is_end t.kind) e).1)
    (clause_moves now t s (next_clause s.state t) (next_opens s.state t))

placed_moves : (p : State) (now : ℤ) (t : Lexeme) (s : Progress) → MovesTo t.kind (placed_at p now t s)
placed_moves states.Statement now t s = begun_moves t s
placed_moves p now t s = continued_moves now t s

finishing_time_moves : (now : ℤ) (t : Lexeme) (s : Progress) (r : BuilderResult) → MovesTo t.kind (after_finishing_time now t s r)
finishing_time_moves now t s (Ok p) = placed_moves p.0 now t (record s { state = p.0; builder = p.1 })
finishing_time_moves now t s (Err fault) = tt

step_moves_to : (now : ℤ) (t : Lexeme) (s : Progress) → MovesTo t.kind (step now t s)
unfolding step
step_moves_to now t s = finishing_time_moves now t s (finish_time_step s.state t.kind s.builder)

-- the text has been read after a step exactly if the step took its end
pub step_done : (now : ℤ) (t : Lexeme) (s after : Progress) → step now t s ≡ Ok after → is_done after.state ≡ is_end_of_text t.kind
step_done now t s after e = subst (λ (r : Advance). MovesTo t.kind r) e (step_moves_to now t s)
