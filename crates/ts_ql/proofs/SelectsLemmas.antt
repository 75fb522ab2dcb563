-- The columns of a statement are those that its text selects, from its SELECT on and after each of its tokens.
use Rattle.std.proofs.Common.{◌≡◌, ℕ, suc, ◌+◌, ℤ, List, [], ◌∷◌, drop, Bool, true, false, ◌&&◌, codes, Option, Some, None, Result, Ok, Err, refl, sym, ap, ◌∙◌, subst}
use Rattle.std.proofs.lemmas.Bool.{cond_both}
use Rattle.std.proofs.lemmas.List.{drop-drop}
use Rattle.std.specs.Prelude.{⊤, if◌then◌else◌, nat_le, ◌==◌}
use Rattle.ts_core.specs.facts.Facts.{Text}
use Rattle.ts_ql.specs.declared.bytes.Class.{Class}
use Rattle.ts_ql.specs.declared.bytes.Class.TheVariants.{Space}
use Rattle.ts_ql.specs.declared.filling.FillClause.{FillClause}
use Rattle.ts_ql.specs.declared.moment.Moment.{Moment}
use Rattle.ts_ql.specs.declared.moment.Range.{Range}
use Rattle.ts_ql.specs.declared.state.Clause.{Clause}
use Rattle.ts_ql.specs.declared.state.Clause.TheVariants as clauses
use Rattle.ts_ql.specs.declared.state.State.{State}
use Rattle.ts_ql.specs.declared.state.State.TheVariants as states
use Rattle.ts_ql.specs.declared.token.Kind.{Kind}
use Rattle.ts_ql.specs.declared.token.Kind.TheVariants as kinds
use Rattle.ts_ql.specs.Builders.{BuilderState, empty_builder, meaning}
use Rattle.ts_ql.specs.ColumnReading.{has_from, Selects, HasColumns}
use Rattle.ts_ql.specs.GroupSteps.{Grouped, grouping_at, group_step, fill_at, fill_step}
use Rattle.ts_ql.specs.Lexing.{is_in, run_end, end_of_run, shape_at, shaped, token_at}
use Rattle.ts_ql.specs.Literals.{is_word}
use Rattle.ts_ql.specs.MomentSteps.{moment_at, moment_step, narrowed}
use Rattle.ts_ql.specs.QueryFaults.{Fault, unexpected, TooManyStatements}
use Rattle.ts_ql.specs.Reading.{BuilderResult, narrowed_in, finish_time_at, finish_time_step, in_selection, in_filter, in_moment, in_groups, in_filling, clause_of, builder_at, builder_step, group_alone, fill_alone, clause_at, next_clause, is_end, may_end, Progress, Advance, start_progress, begun_at, begun, after_end, ended_with, ended, with_builder, clause_or, placed_at, after_finishing_time, step, is_outside, HasColumnsOf}
use Rattle.ts_ql.specs.Selects.{Projection, Select}
use Rattle.ts_ql.specs.SelectSteps.{Selected, select_at, select_step, empty_selection}
use Rattle.ts_ql.specs.Statements.{statement_query}
use Rattle.ts_ql.specs.Tokens.{Lexeme}
use Rattle.ts_ql.specs.WhereSteps.{Filtered, where_at, where_step}
use Rattle.ts_ql.proofs.ColumnLemmas.{is_selecting, Picks, select_picks}
use Rattle.ts_ql.proofs.MachineAnswers.{answers}
use Rattle.ts_ql.proofs.Rests.{Sound, SoundAt}
use Rattle.ts_ql.proofs.Steps.{Answer}
use Rattle.ts_ql.proofs.StepLemmas.{Within, where_within, moment_within, group_within, fill_within}

-- ---- a token, read again from its start

run_twice : (class : Class) (text : Text) (at : ℕ) (bs : Text) → drop at text ≡ bs → run_end class (run_end class at bs) (drop (run_end class at bs) text) ≡ run_end class at bs
run_twice class text at [] e = rw e refl
run_twice class text at (b ∷ bs) e =
    cond_both (is_in class b) (run_end class (at + 1) bs) at (λ x. run_end class x (drop x text) ≡ x)
    (λ t. run_twice class text (at + 1) bs (sym (drop-drop 1 at text) ∙ ap (drop 1) e)) (λ f. rw (e, f) refl)

end_twice : (class : Class) (text : Text) (at : ℕ) → end_of_run class text (end_of_run class text at) ≡ end_of_run class text at
unfolding end_of_run
end_twice class text at = run_twice class text at (drop at text) refl

pub token_twice : (text : Text) (at : ℕ) → token_at text (token_at text at).start ≡ token_at text at
unfolding token_at
token_twice text at = ap (λ (x : ℕ). shaped text x (shape_at text x)) (end_twice Space text at)

-- ---- states

-- the columns that the text selects from this offset on are all columns of the statement
abbrev pub SelectsOn : State → Text → ℕ → Progress → Type 0
SelectsOn p text at s = (columns : List Projection) → Selects text columns at p s.builder.selection → HasColumns text s.start columns

-- in SELECT or FROM, the columns that the text selects are those of the statement; after FROM, it has them
abbrev SelectsBy : Bool → Bool → State → Text → ℕ → Progress → Type 0
SelectsBy true outside p text at s = SelectsOn p text at s
SelectsBy false true p text at s = HasColumns text s.start s.builder.selection.columns
SelectsBy false false p text at s = ⊤

abbrev SelectsAt : State → Text → ℕ → Progress → Type 0
SelectsAt p text at s = SelectsBy (is_selecting p) (is_outside p) p text at s

-- at this offset of the text, the columns of the current statement are those that its text selects
abbrev pub SelectsSo : Text → ℕ → Progress → Type 0
SelectsSo text at s = SelectsAt s.state text at s

selecting_on : (p : State) (text : Text) (at : ℕ) (s : Progress) → is_selecting p ≡ true → SelectsAt p text at s → SelectsOn p text at s
selecting_on p text at s e h = subst (λ (b : Bool). SelectsBy b (is_outside p) p text at s) e h

on_selecting : (p : State) (text : Text) (at : ℕ) (s : Progress) → is_selecting p ≡ true → SelectsOn p text at s → SelectsAt p text at s
on_selecting p text at s e h = subst (λ (b : Bool). SelectsBy b (is_outside p) p text at s) (sym e) h

has_by : (b c : Bool) (p : State) (text : Text) (at : ℕ) (s : Progress) → b ≡ false → c ≡ true → SelectsBy b c p text at s → HasColumns text s.start s.builder.selection.columns
has_by true c p text at s e f h = absurd cc
has_by false true p text at s e f h = h
has_by false false p text at s e f h = absurd cc

by_has : (b c : Bool) (p : State) (text : Text) (at : ℕ) (s : Progress) → b ≡ false → c ≡ true → HasColumns text s.start s.builder.selection.columns → SelectsBy b c p text at s
by_has true c p text at s e f h = absurd cc
by_has false true p text at s e f h = h
by_has false false p text at s e f h = tt

not_selecting : (p : State) → is_outside p ≡ true → is_selecting p ≡ false
not_selecting states.Function e = absurd cc
not_selecting states.FunctionOpen e = absurd cc
not_selecting states.Field e = absurd cc
not_selecting states.FieldEnd e = absurd cc
not_selecting states.FieldType e = absurd cc
not_selecting states.FieldClose e = absurd cc
not_selecting states.AfterColumn e = absurd cc
not_selecting states.Alias e = absurd cc
not_selecting states.AfterAlias e = absurd cc
not_selecting states.Measurement e = absurd cc
not_selecting p e = refl

outside_has : (p : State) (text : Text) (at : ℕ) (s : Progress) → is_outside p ≡ true → SelectsAt p text at s → HasColumns text s.start s.builder.selection.columns
outside_has p text at s e h = has_by (is_selecting p) (is_outside p) p text at s (not_selecting p e) e h

has_outside : (p : State) (text : Text) (at : ℕ) (s : Progress) → is_outside p ≡ true → HasColumns text s.start s.builder.selection.columns → SelectsAt p text at s
has_outside p text at s e h = by_has (is_selecting p) (is_outside p) p text at s (not_selecting p e) e h

-- ---- SELECT

-- what is selected after a token before the measurement is selected from that token on
selects_before : (text : Text) (columns : List Projection) (at : ℕ) (p : State) (s : Selected) (q : State × Selected) → has_from p ≡ false → select_step p (token_at text at) s ≡ Ok q
    → Selects text columns (token_at text at).end q.0 q.1 → Selects text columns at p s
selects_before text columns at p s q before e (n, w) = (suc n, rw (before, e) w)

selects_all : (text : Text) (at : ℕ) (p : State) (s : Selected) → has_from p ≡ true → Selects text s.columns at p s
selects_all text at p s after = (1, rw after refl)

-- ---- within a statement

abbrev BuilderKeeps : Text → ℕ → Progress → BuilderResult → Type 0
BuilderKeeps text at s (Ok q) = SelectsAt q.0 text at (record s { state = q.0; builder = q.1 })
BuilderKeeps text at s (Err fault) = ⊤

selection_keeps : (text : Text) (at : ℕ) (p : State) (s : Progress) (r : Result (State × Selected) Fault) (from : Bool) → has_from p ≡ from
    → select_step p (token_at text at) s.builder.selection ≡ r → Picks from s.builder.selection.columns r → SelectsOn p text at s
    → BuilderKeeps text (token_at text at).end s (in_selection s.builder r)
selection_keeps text at p s (Ok q) false before e picks h =
    on_selecting q.0 text (token_at text at).end (record s { state = q.0; builder = record s.builder { selection = q.1 } }) picks.0
    (λ columns selects. h columns (selects_before text columns at p s.builder.selection q before e selects))
selection_keeps text at p s (Ok q) true after e picks h =
    has_outside q.0 text (token_at text at).end (record s { state = q.0; builder = record s.builder { selection = q.1 } }) picks.0
    (subst (λ (columns : List Projection). HasColumns text s.start columns) (sym picks.1) (h s.builder.selection.columns (selects_all text at p s.builder.selection after)))
selection_keeps text at p s (Err fault) false from e picks h = tt
selection_keeps text at p s (Err fault) true from e picks h = tt

filter_keeps : (k : Kind) (text : Text) (at : ℕ) (s : Progress) (r : Result (State × Filtered) Fault) → Within k r → HasColumns text s.start s.builder.selection.columns
    → BuilderKeeps text at s (in_filter s.builder r)
filter_keeps k text at s (Ok q) w h = has_outside q.0 text at (record s { state = q.0; builder = record s.builder { filter = q.1 } }) w.0 h
filter_keeps k text at s (Err fault) w h = tt

timing_keeps : (k : Kind) (text : Text) (at : ℕ) (s : Progress) (r : Result (State × Moment) Fault) → Within k r → HasColumns text s.start s.builder.selection.columns
    → BuilderKeeps text at s (in_moment s.builder r)
timing_keeps k text at s (Ok q) w h = has_outside q.0 text at (record s { state = q.0; builder = record s.builder { moment = q.1 } }) w.0 h
timing_keeps k text at s (Err fault) w h = tt

groups_keep : (k : Kind) (text : Text) (at : ℕ) (s : Progress) (r : Result (State × Grouped) Fault) → Within k r → HasColumns text s.start s.builder.selection.columns
    → BuilderKeeps text at s (in_groups s.builder r)
groups_keep k text at s (Ok q) w h = has_outside q.0 text at (record s { state = q.0; builder = record s.builder { groups = q.1 } }) w.0 h
groups_keep k text at s (Err fault) w h = tt

filling_keeps : (k : Kind) (text : Text) (at : ℕ) (s : Progress) (r : Result (State × FillClause) Fault) → Within k r → HasColumns text s.start s.builder.selection.columns
    → BuilderKeeps text at s (in_filling s.builder r)
filling_keeps k text at s (Ok q) w h = has_outside q.0 text at (record s { state = q.0; builder = record s.builder { filling = q.1 } }) w.0 h
filling_keeps k text at s (Err fault) w h = tt

-- the states of each clause
abbrev Belongs : Clause → State → Type 0
Belongs clauses.Select p = is_selecting p ≡ true
Belongs clauses.None p = ⊤
Belongs c p = is_outside p ≡ true

belongs : (p : State) → Belongs (clause_of p) p
belongs states.Statement = tt
belongs states.AfterMeasurement = tt
belongs states.AfterFill = tt
belongs states.Done = tt
belongs p = refl

builder_at_keeps : (c : Clause) (now : ℤ) (p : State) (text : Text) (at : ℕ) (s : Progress) → Belongs c p → SelectsAt p text at s
    → BuilderKeeps text (token_at text at).end s (builder_at c now p (token_at text at) s.builder)
unfolding select_step where_step moment_step group_step fill_step
builder_at_keeps clauses.Select now p text at s b h =
    let t : Lexeme = token_at text at in
    let d : BuilderState = s.builder in
    selection_keeps text at p s (select_at p t.kind t d.selection) (has_from p) refl refl (select_picks p t.kind t d.selection) (selecting_on p text at s b h)
builder_at_keeps clauses.Where now p text at s b h =
    let t : Lexeme = token_at text at in
    let d : BuilderState = s.builder in
    filter_keeps t.kind text t.end s (where_at p t.kind t d.filter) (where_within p t.kind t d.filter) (outside_has p text at s b h)
builder_at_keeps clauses.Moment now p text at s b h =
    let t : Lexeme = token_at text at in
    let d : BuilderState = s.builder in
    timing_keeps t.kind text t.end s (moment_at now p t.kind t d.moment) (moment_within now p t.kind t d.moment) (outside_has p text at s b h)
builder_at_keeps clauses.Group now p text at s b h =
    let t : Lexeme = token_at text at in
    let d : BuilderState = s.builder in
    groups_keep t.kind text t.end s (grouping_at p t.kind t d.groups) (group_within p t.kind t d.groups) (outside_has p text at s b h)
builder_at_keeps clauses.Fill now p text at s b h =
    let t : Lexeme = token_at text at in
    let d : BuilderState = s.builder in
    filling_keeps t.kind text t.end s (fill_at p t.kind t d.filling) (fill_within p t.kind t d.filling) (outside_has p text at s b h)
builder_at_keeps clauses.None now p text at s b h = tt

builder_keeps : (now : ℤ) (text : Text) (at : ℕ) (s : Progress) → SelectsSo text at s → BuilderKeeps text (token_at text at).end s (builder_step now s.state (token_at text at) s.builder)
unfolding builder_step
builder_keeps now text at s h = builder_at_keeps (clause_of s.state) now s.state text at s (belongs s.state) h

-- ---- from clause to clause

-- a clause opens outside of SELECT, and so does its first state
abbrev Opens : State → Option State → Type 0
Opens p None = ⊤
Opens p (Some next) = (is_outside p ≡ true) × (is_outside next ≡ true)

opens_if : (p : State) (test : Bool) (next : State) (other : Option State) → is_outside p ≡ true → is_outside next ≡ true → Opens p other → Opens p (if test then Some next else other)
opens_if p true next other e a b = (e, a)
opens_if p false next other e a b = b

group_opens : (p : State) (text : Text) → is_outside p ≡ true → Opens p (group_alone text)
group_opens p text e = opens_if p (is_word (codes "group") text) states.GroupBy None e refl tt

fill_opens : (p : State) (text : Text) → is_outside p ≡ true → Opens p (fill_alone text)
fill_opens p text e = opens_if p (is_word (codes "fill") text) states.FillOpen None e refl tt

clause_opens : (p : State) (k : Kind) (text : Text) → Opens p (clause_at p k text)
clause_opens states.AfterMeasurement kinds.Keyword text =
    opens_if states.AfterMeasurement (is_word (codes "where") text) states.Term (group_alone text) refl refl (group_opens states.AfterMeasurement text refl)
clause_opens states.AfterTerm kinds.Keyword text = group_opens states.AfterTerm text refl
clause_opens states.AfterMeasurement kinds.Word text = fill_opens states.AfterMeasurement text refl
clause_opens states.AfterTerm kinds.Word text = fill_opens states.AfterTerm text refl
clause_opens states.AfterTag kinds.Word text = fill_opens states.AfterTag text refl
clause_opens states.AfterItem kinds.Word text = fill_opens states.AfterItem text refl
clause_opens p k text = tt

next_opens : (p : State) (t : Lexeme) → Opens p (next_clause p t)
unfolding next_clause
next_opens p t = clause_opens p t.kind t.text

-- ---- statements

abbrev Keeps : Text → ℕ → Advance → Type 0
Keeps text at (Ok m) = SelectsSo text at m
Keeps text at (Err fault) = ⊤

after_end_keeps : (k : Kind) (text : Text) (at : ℕ) (s : Progress) → SelectsAt (after_end k) text at s
after_end_keeps kinds.Semicolon text at s = tt
after_end_keeps k text at s = tt

ended_keeps : (k : Kind) (text : Text) (at : ℕ) (s : Progress) (r : Result Select Fault) → Keeps text at (ended_with k s r)
ended_keeps k text at s (Ok q) = after_end_keeps k text at _
ended_keeps k text at s (Err fault) = tt

with_builder_keeps : (text : Text) (at : ℕ) (s : Progress) (r : BuilderResult) → BuilderKeeps text at s r → Keeps text at (with_builder s r)
with_builder_keeps text at s (Ok q) h = h
with_builder_keeps text at s (Err fault) h = tt

clause_keeps : (now : ℤ) (text : Text) (at : ℕ) (s : Progress) (o : Option State) → Opens s.state o → SelectsSo text at s
    → Keeps text (token_at text at).end (clause_or now (token_at text at) s o)
clause_keeps now text at s None opens h =
    with_builder_keeps text (token_at text at).end s (builder_step now s.state (token_at text at) s.builder) (builder_keeps now text at s h)
clause_keeps now text at s (Some next) opens h =
    has_outside next text (token_at text at).end (record s { state = next }) opens.1 (outside_has s.state text at s opens.0 h)

continued_keeps_if : (now : ℤ) (text : Text) (at : ℕ) (s : Progress) (b : Bool) → SelectsSo text at s
    → Keeps text (token_at text at).end (if b then ended now (token_at text at).kind s else clause_or now (token_at text at) s (next_clause s.state (token_at text at)))
continued_keeps_if now text at s true h =
    ended_keeps (token_at text at).kind text (token_at text at).end s (statement_query s.start now (meaning s.builder))
continued_keeps_if now text at s false h = clause_keeps now text at s (next_clause s.state (token_at text at)) (next_opens s.state (token_at text at)) h

-- a statement begins with nothing read
abbrev Fresh : State → Progress → Type 0
Fresh states.Statement s = s.builder ≡ empty_builder
Fresh p s = ⊤

-- the token that begins a statement is that of its start
opened : (text : Text) (t : Lexeme) (s : Progress) → token_at text t.start ≡ t → s.builder ≡ empty_builder
    → SelectsOn states.Function text t.end (record s { state = states.Function; count = s.count + 1; start = t.start })
opened text t s same fresh = λ columns selects.
    subst (λ (u : Lexeme). Selects text columns u.end states.Function empty_selection) (sym same)
    (subst (λ (d : BuilderState). Selects text columns t.end states.Function d.selection) fresh selects)

selected_keeps : (text : Text) (t : Lexeme) (s : Progress) (b many : Bool) → token_at text t.start ≡ t → s.builder ≡ empty_builder
    → Keeps text t.end (if b then (if many then Err (TooManyStatements t.start) else Ok (record s { state = states.Function; count = s.count + 1; start = t.start })) else Err (unexpected t))
selected_keeps text t s true true same fresh = tt
selected_keeps text t s true false same fresh = opened text t s same fresh
selected_keeps text t s false many same fresh = tt

stopped_keeps : (text : Text) (t : Lexeme) (s : Progress) (b : Bool) → Keeps text t.end (if b then Err (unexpected t) else Ok (record s { state = states.Done }))
stopped_keeps text t s true = tt
stopped_keeps text t s false = tt

begun_at_keeps : (k : Kind) (text : Text) (t : Lexeme) (s : Progress) → token_at text t.start ≡ t → s.builder ≡ empty_builder → Keeps text t.end (begun_at k t s)
begun_at_keeps kinds.Keyword text t s same fresh = selected_keeps text t s (is_word (codes "select") t.text) (nat_le 16 s.count) same fresh
begun_at_keeps kinds.End text t s same fresh = stopped_keeps text t s (s.count == 0)
begun_at_keeps k text t s same fresh = tt

placed_keeps : (p : State) (now : ℤ) (text : Text) (at : ℕ) (s : Progress) → Fresh p s → SelectsSo text at s → Keeps text (token_at text at).end (placed_at p now (token_at text at) s)
unfolding begun
placed_keeps states.Statement now text at s fresh h = begun_at_keeps (token_at text at).kind text (token_at text at) s (token_twice text at) fresh
placed_keeps p now text at s fresh h = continued_keeps_if now text at s (may_end s.state && is_end (token_at text at).kind) h

-- ---- the end of a time expression

term_keeps : (text : Text) (at : ℕ) (s m : Progress) (outside : Bool) → m.start ≡ s.start → m.builder.selection ≡ s.builder.selection → SelectsAt states.AfterMoment text at s
    → SelectsAt (if outside then states.AfterTerm else states.NestedTerm) text at m
term_keeps text at s m true start same h = rw (start, same) h
term_keeps text at s m false start same h = rw (start, same) h

narrowed_keeps : (text : Text) (at : ℕ) (s : Progress) (r : Result Range Fault) → SelectsAt states.AfterMoment text at s → BuilderKeeps text at s (narrowed_in s.builder r)
narrowed_keeps text at s (Ok range) h = term_keeps text at s _ (s.builder.filter.depth == 0) refl refl h
narrowed_keeps text at s (Err fault) h = tt

-- a token that ends a time expression leaves the columns, and the state outside of SELECT
finish_keeps : (p : State) (k : Kind) (text : Text) (at : ℕ) (s : Progress) → SelectsAt p text at s → BuilderKeeps text at s (finish_time_at p k s.builder)
finish_keeps states.AfterMoment kinds.Plus text at s h = h
finish_keeps states.AfterMoment kinds.Minus text at s h = h
finish_keeps states.AfterMoment k text at s h = narrowed_keeps text at s (narrowed s.builder.moment s.builder.range) h
finish_keeps p k text at s h = h

abbrev FreshAfter : Progress → BuilderResult → Type 0
FreshAfter s (Ok q) = Fresh q.0 (record s { state = q.0; builder = q.1 })
FreshAfter s (Err fault) = ⊤

term_fresh : (m : Progress) (outside : Bool) → Fresh (if outside then states.AfterTerm else states.NestedTerm) m
term_fresh m true = tt
term_fresh m false = tt

narrowed_fresh : (s : Progress) (r : Result Range Fault) → FreshAfter s (narrowed_in s.builder r)
narrowed_fresh s (Ok range) = term_fresh _ (s.builder.filter.depth == 0)
narrowed_fresh s (Err fault) = tt

finish_fresh : (p : State) (k : Kind) (s : Progress) → SoundAt p s → FreshAfter s (finish_time_at p k s.builder)
finish_fresh states.Statement k s sound = sound
finish_fresh states.AfterMoment kinds.Plus s sound = tt
finish_fresh states.AfterMoment kinds.Minus s sound = tt
finish_fresh states.AfterMoment k s sound = narrowed_fresh s (narrowed s.builder.moment s.builder.range)
finish_fresh p k s sound = tt

finishing_keeps : (now : ℤ) (text : Text) (at : ℕ) (s : Progress) (r : BuilderResult) → FreshAfter s r → BuilderKeeps text at s r
    → Keeps text (token_at text at).end (after_finishing_time now (token_at text at) s r)
finishing_keeps now text at s (Ok q) fresh h = placed_keeps q.0 now text at (record s { state = q.0; builder = q.1 }) fresh h
finishing_keeps now text at s (Err fault) fresh h = tt

step_keeps : (now : ℤ) (text : Text) (at : ℕ) (s : Progress) → Sound s → SelectsSo text at s → Keeps text (token_at text at).end (step now (token_at text at) s)
unfolding step finish_time_step
step_keeps now text at s sound h =
    let k : Kind = (token_at text at).kind in
    finishing_keeps now text at s (finish_time_at s.state k s.builder) (finish_fresh s.state k s sound) (finish_keeps s.state k text at s h)

-- ---- along a text

pub selects_none : (text : Text) (s : Progress) → s ≡ start_progress → SelectsSo text 0 s
selects_none text s e = subst (λ (m : Progress). SelectsSo text 0 m) (sym e) tt

pub selects_more : (now : ℤ) (text : Text) (at : ℕ) (s m : Progress) → Sound s → step now (token_at text at) s ≡ Ok m → SelectsSo text at s → SelectsSo text (token_at text at).end m
selects_more now text at s m sound e h = subst (λ (r : Advance). Keeps text (token_at text at).end r) e (step_keeps now text at s sound h)

pub sound_first : (s : Progress) → s ≡ start_progress → Sound s
sound_first s e = subst Sound (sym e) refl

pub sound_on : (now : ℤ) (t : Lexeme) (s m : Progress) → Sound s → step now t s ≡ Ok m → Sound m
sound_on now t s m sound e = let answer : Answer now s t (Ok m) = subst (λ (r : Advance). Answer now s t r) e (answers now s t sound) in answer.0

pub columns_outside : (text : Text) (at : ℕ) (s : Progress) → SelectsSo text at s → HasColumnsOf text s
columns_outside text at s h = λ outside. outside_has s.state text at s outside h

-- ---- the end of a statement

may_end_outside : (p : State) → may_end p ≡ true → is_outside p ≡ true
may_end_outside states.AfterMeasurement e = refl
may_end_outside states.AfterTerm e = refl
may_end_outside states.AfterTag e = refl
may_end_outside states.AfterItem e = refl
may_end_outside states.AfterFill e = refl
may_end_outside p e = absurd cc

finished_outside : (p : State) (k : Kind) (d : BuilderState) (q : State × BuilderState) → finish_time_at p k d ≡ Ok q → is_outside q.0 ≡ true → is_outside p ≡ true
finished_outside states.AfterMoment k d q e outside = refl
finished_outside p k d q e outside = let same : q.0 ≡ p = cc in rw same at outside

-- a statement that may end now, or once its time expression has ended, is after its FROM
pub ends_outside : (p : State) (k : Kind) (d : BuilderState) (q : State × BuilderState) → finish_time_step p k d ≡ Ok q → may_end q.0 ≡ true → is_outside p ≡ true
unfolding finish_time_step
ends_outside p k d q e ends = finished_outside p k d q e (may_end_outside q.0 ends)
