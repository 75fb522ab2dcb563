-- Bounds of a sum of moments: it grows by little with each token, so no text has one outside of 128 bits.
use Rattle.std.proofs.Common.{◌≡◌, ℕ, ◌+◌, ◌*◌, ◌≤◌, ◌^◌, ℤ, pos, ◌+ℤ◌, ◌-ℤ◌, unsigned_abs, Bool, true, false, ◌&&◌, Option, Some, None, Result, Ok, Err, arith, refl, subst}
use Rattle.std.specs.Prelude.{⊤, if◌then◌else◌, nat_le, ◌==◌, codes}
use Rattle.std.proofs.lemmas.Int.{ints}
use Rattle.ts_ql.specs.declared.moment.Moment.{Moment}
use Rattle.ts_ql.specs.declared.moment.Range.{Range}
use Rattle.ts_ql.specs.declared.state.Clause.{Clause}
use Rattle.ts_ql.specs.declared.state.Clause.TheVariants as clauses
use Rattle.ts_ql.specs.declared.state.State.{State}
use Rattle.ts_ql.specs.declared.state.State.TheVariants as states
use Rattle.ts_ql.specs.declared.token.Kind.{Kind}
use Rattle.ts_ql.specs.declared.token.Kind.TheVariants as kinds
use Rattle.ts_ql.specs.Dates.{timestamp_of}
use Rattle.ts_ql.specs.Builders.{BuilderState, meaning}
use Rattle.ts_ql.specs.GroupSteps.{Grouping, FillStep, group_step, fill_step}
use Rattle.ts_ql.specs.Literals.{is_word, literal}
use Rattle.ts_ql.specs.MomentSteps.{Timing, CanAddMore, based, later_by, earlier_by, moment_at, moment_step, narrowed}
use Rattle.ts_ql.specs.QueryFaults.{Fault, TooManyStatements, unexpected}
use Rattle.ts_ql.specs.Reading.{Progress, Advance, BuilderResult, start_progress, narrowed_in, finish_time_at, finish_time_step, in_selection, in_filter, in_moment, in_groups, in_filling, clause_of, builder_at, builder_step, begun_at, begun, ended_with, ended, with_builder, clause_or, next_clause, is_end, may_end, placed_at, after_finishing_time, step}
use Rattle.ts_ql.specs.Selects.{Select}
use Rattle.ts_ql.specs.SelectSteps.{Selecting, select_step}
use Rattle.ts_ql.specs.Statements.{statement_query}
use Rattle.ts_ql.specs.Tokens.{Lexeme}
use Rattle.ts_ql.specs.WhereSteps.{Filtering, where_step}
use Rattle.ts_ql.proofs.DateBounds.{Holds, IsNear, moment_told_near, literal_near}

-- if the sum before a token has a bound, the sum after it has a slightly larger one
abbrev pub Follows : ℤ → ℤ → ℤ → Type 0
Follows now old new = (bound : ℕ) → unsigned_abs now ≤ bound → unsigned_abs old ≤ bound → unsigned_abs new ≤ bound + 2 ^ 102

-- ---- the moment

abbrev MomentFollows : ℤ → Moment → Timing → Type 0
MomentFollows now m (Ok p) = Follows now m.total p.1.total
MomentFollows now m (Err f) = ⊤

same_follows : (now old : ℤ) → Follows now old old
same_follows now old bound n o = omega arith

near_follows : (now old new : ℤ) → IsNear new → Follows now old new
near_follows now old new h bound n o = omega arith

now_follows : (now old : ℤ) → Follows now old now
now_follows now old bound n o = omega arith

sum_follows : (now old value : ℤ) → IsNear value → Follows now old (old +ℤ value)
sum_follows now old value h bound n o = omega (arith, ints)

difference_follows : (now old value : ℤ) → IsNear value → Follows now old (old -ℤ value)
difference_follows now old value h bound n o = omega (arith, ints)

based_follows : (now : ℤ) (first : ℕ) (m : Moment) (o : Option ℤ) → Holds IsNear o → MomentFollows now m (based first m o)
based_follows now first m None h = tt
based_follows now first m (Some value) h = near_follows now m.total value h

later_follows : (now : ℤ) (t : Lexeme) (m : Moment) (o : Option ℤ) → Holds IsNear o → MomentFollows now m (later_by t m o)
later_follows now t m None h = tt
later_follows now t m (Some value) h = sum_follows now m.total value h

earlier_follows : (now : ℤ) (t : Lexeme) (m : Moment) (o : Option ℤ) → Holds IsNear o → MomentFollows now m (earlier_by t m o)
earlier_follows now t m None h = tt
earlier_follows now t m (Some value) h = difference_follows now m.total value h

now_or_follows : (now : ℤ) (t : Lexeme) (m : Moment) (b : Bool) → MomentFollows now m (if b then Ok (states.NowOpen, record m { first = t.start }) else Err (unexpected t))
now_or_follows now t m true = same_follows now m.total
now_or_follows now t m false = tt

moment_follows : (now : ℤ) (p : State) (k : Kind) (t : Lexeme) (m : Moment) → MomentFollows now m (moment_at now p k t m)
moment_follows now states.TimeSign kinds.Equals t m = same_follows now m.total
moment_follows now states.TimeSign kinds.Less t m = same_follows now m.total
moment_follows now states.TimeSign kinds.LessOrEqual t m = same_follows now m.total
moment_follows now states.TimeSign kinds.Greater t m = same_follows now m.total
moment_follows now states.TimeSign kinds.GreaterOrEqual t m = same_follows now m.total
moment_follows now states.Moment kinds.Minus t m = same_follows now m.total
moment_follows now states.Moment kinds.Integer t m = based_follows now t.start m (literal false t.text) (literal_near false t.text)
moment_follows now states.Moment kinds.Duration t m = based_follows now t.start m (literal false t.text) (literal_near false t.text)
moment_follows now states.Moment kinds.StringLiteral t m = based_follows now t.start m (timestamp_of t.text) (moment_told_near t.text)
moment_follows now states.Moment kinds.Word t m = now_or_follows now t m (is_word (codes "now") t.text)
moment_follows now states.MomentMinus kinds.Integer t m = based_follows now m.first m (literal true t.text) (literal_near true t.text)
moment_follows now states.MomentMinus kinds.Duration t m = based_follows now m.first m (literal true t.text) (literal_near true t.text)
moment_follows now states.NowOpen kinds.LeftParen t m = same_follows now m.total
moment_follows now states.NowClose kinds.RightParen t m = now_follows now m.total
moment_follows now states.AfterMoment kinds.Plus t m = same_follows now m.total
moment_follows now states.AfterMoment kinds.Minus t m = same_follows now m.total
moment_follows now states.MomentPlus kinds.Duration t m = later_follows now t m (literal false t.text) (literal_near false t.text)
moment_follows now states.MomentLess kinds.Duration t m = earlier_follows now t m (literal false t.text) (literal_near false t.text)
moment_follows now p k t m = tt

-- ---- the draft

abbrev BuilderFollows : ℤ → BuilderState → BuilderResult → Type 0
BuilderFollows now d (Ok p) = Follows now d.moment.total p.1.moment.total
BuilderFollows now d (Err f) = ⊤

select_follows : (now : ℤ) (d : BuilderState) (r : Selecting) → BuilderFollows now d (in_selection d r)
select_follows now d (Ok p) = same_follows now d.moment.total
select_follows now d (Err f) = tt

where_follows : (now : ℤ) (d : BuilderState) (r : Filtering) → BuilderFollows now d (in_filter d r)
where_follows now d (Ok p) = same_follows now d.moment.total
where_follows now d (Err f) = tt

group_follows : (now : ℤ) (d : BuilderState) (r : Grouping) → BuilderFollows now d (in_groups d r)
group_follows now d (Ok p) = same_follows now d.moment.total
group_follows now d (Err f) = tt

fill_follows : (now : ℤ) (d : BuilderState) (r : FillStep) → BuilderFollows now d (in_filling d r)
fill_follows now d (Ok p) = same_follows now d.moment.total
fill_follows now d (Err f) = tt

timed_follows : (now : ℤ) (d : BuilderState) (r : Timing) → MomentFollows now d.moment r → BuilderFollows now d (in_moment d r)
timed_follows now d (Ok p) h = h
timed_follows now d (Err f) h = tt

clause_follows : (c : Clause) (now : ℤ) (p : State) (t : Lexeme) (d : BuilderState) → BuilderFollows now d (builder_at c now p t d)
unfolding moment_step
clause_follows clauses.Select now p t d = select_follows now d (select_step p t d.selection)
clause_follows clauses.Where now p t d = where_follows now d (where_step p t d.filter)
clause_follows clauses.Moment now p t d = timed_follows now d (moment_step now p t d.moment) (moment_follows now p t.kind t d.moment)
clause_follows clauses.Group now p t d = group_follows now d (group_step p t d.groups)
clause_follows clauses.Fill now p t d = fill_follows now d (fill_step p t d.filling)
clause_follows clauses.None now p t d = tt

builder_follows : (now : ℤ) (p : State) (t : Lexeme) (d : BuilderState) → BuilderFollows now d (builder_step now p t d)
unfolding builder_step
builder_follows now p t d = clause_follows (clause_of p) now p t d

-- ---- the text

abbrev ProgressFollows : ℤ → Progress → Advance → Type 0
ProgressFollows now s (Ok n) = Follows now s.builder.moment.total n.builder.moment.total
ProgressFollows now s (Err f) = ⊤

with_builder_follows : (now : ℤ) (s : Progress) (r : BuilderResult) → BuilderFollows now s.builder r → ProgressFollows now s (with_builder s r)
with_builder_follows now s (Ok p) h = h
with_builder_follows now s (Err f) h = tt

empty_follows : (now old : ℤ) → Follows now old (pos 0)
empty_follows now old bound n o = omega arith

ended_follows : (now : ℤ) (s : Progress) (k : Kind) (r : Result Select Fault) → ProgressFollows now s (ended_with k s r)
ended_follows now s k (Ok q) = empty_follows now s.builder.moment.total
ended_follows now s k (Err f) = tt

clause_or_follows : (now : ℤ) (t : Lexeme) (s : Progress) (o : Option State) → ProgressFollows now s (clause_or now t s o)
clause_or_follows now t s None = with_builder_follows now s (builder_step now s.state t s.builder) (builder_follows now s.state t s.builder)
clause_or_follows now t s (Some next) = same_follows now s.builder.moment.total

continued_follows_if : (now : ℤ) (t : Lexeme) (s : Progress) (b : Bool) → ProgressFollows now s (if b then ended now t.kind s else clause_or now t s (next_clause s.state t))
continued_follows_if now t s true = ended_follows now s t.kind (statement_query s.start now (meaning s.builder))
continued_follows_if now t s false = clause_or_follows now t s (next_clause s.state t)

selected_follows : (now : ℤ) (t : Lexeme) (s : Progress) (b many : Bool) → ProgressFollows now s (if b then (if many then Err (TooManyStatements t.start)
    else Ok (record s { state = states.Function; count = s.count + 1; start = t.start })) else Err (unexpected t))
selected_follows now t s true true = tt
selected_follows now t s true false = same_follows now s.builder.moment.total
selected_follows now t s false many = tt

stopped_follows : (now : ℤ) (t : Lexeme) (s : Progress) (b : Bool) → ProgressFollows now s (if b then Err (unexpected t) else Ok (record s { state = states.Done }))
stopped_follows now t s true = tt
stopped_follows now t s false = same_follows now s.builder.moment.total

begun_follows : (now : ℤ) (k : Kind) (t : Lexeme) (s : Progress) → ProgressFollows now s (begun_at k t s)
begun_follows now kinds.Keyword t s = selected_follows now t s (is_word (codes "select") t.text) (nat_le 16 s.count)
begun_follows now kinds.End t s = stopped_follows now t s (s.count == 0)
begun_follows now k t s = tt

placed_follows : (p : State) (now : ℤ) (t : Lexeme) (s : Progress) → ProgressFollows now s (placed_at p now t s)
unfolding begun
placed_follows states.Statement now t s = begun_follows now t.kind t s
placed_follows p now t s = continued_follows_if now t s (may_end s.state && is_end t.kind)

-- a token that ends a moment leaves its sum
abbrev Keeps : BuilderState → BuilderResult → Type 0
Keeps d (Ok p) = p.1.moment ≡ d.moment
Keeps d (Err f) = ⊤

settled_keeps : (d : BuilderState) (r : Result Range Fault) → Keeps d (narrowed_in d r)
settled_keeps d (Ok range) = refl
settled_keeps d (Err f) = tt

finish_time_keeps : (p : State) (k : Kind) (d : BuilderState) → Keeps d (finish_time_at p k d)
finish_time_keeps states.AfterMoment kinds.Plus d = refl
finish_time_keeps states.AfterMoment kinds.Minus d = refl
finish_time_keeps states.AfterMoment k d = settled_keeps d (narrowed d.moment d.range)
finish_time_keeps p k d = refl

moved_follows : (now : ℤ) (s moved : Progress) (r : Advance) → moved.builder.moment ≡ s.builder.moment → ProgressFollows now moved r → ProgressFollows now s r
moved_follows now s moved (Ok n) same h = subst (λ (m : Moment). Follows now m.total n.builder.moment.total) same h
moved_follows now s moved (Err f) same h = tt

finishing_time_follows : (now : ℤ) (t : Lexeme) (s : Progress) (r : BuilderResult) → Keeps s.builder r → ProgressFollows now s (after_finishing_time now t s r)
finishing_time_follows now t s (Ok p) h =
    let moved : Progress = record s { state = p.0; builder = p.1 } in
    moved_follows now s moved (placed_at p.0 now t moved) h (placed_follows p.0 now t moved)
finishing_time_follows now t s (Err f) h = tt

pub step_follows : (now : ℤ) (t : Lexeme) (s : Progress) → ProgressFollows now s (step now t s)
unfolding step finish_time_step
step_follows now t s = finishing_time_follows now t s (finish_time_at s.state t.kind s.builder) (finish_time_keeps s.state t.kind s.builder)

-- ---- token by token

-- the sum after n tokens
abbrev pub IsAfter : ℤ → ℕ → Progress → Type 0
IsAfter now round s = unsigned_abs s.builder.moment.total ≤ round * 2 ^ 102 + unsigned_abs now

pub starts : (now : ℤ) (s : Progress) → s ≡ start_progress → IsAfter now 0 s
starts now s e = rw e (omega arith)

taken : (now : ℤ) (s n : Progress) (r : Advance) (round : ℕ) → ProgressFollows now s r → r ≡ Ok n → IsAfter now round s → IsAfter now (round + 1) n
taken now s n (Ok m) round h e before =
    let same : m ≡ n = cc in
    let far = h (round * 2 ^ 102 + unsigned_abs now) (omega arith) before in
    subst (λ (k : Progress). IsAfter now (round + 1) k) same (omega (arith, far))
taken now s n (Err f) round h e before = absurd cc

pub follows_on : (now : ℤ) (t : Lexeme) (s n : Progress) (round : ℕ) → step now t s ≡ Ok n → IsAfter now round s → IsAfter now (round + 1) n
follows_on now t s n round e before = taken now s n (step now t s) round (step_follows now t s) e before

pub has_room : (now : ℤ) (s : Progress) (round : ℕ) → round ≤ 65536 → IsAfter now round s → CanAddMore now s.builder.moment
has_room now s round few before = omega arith
