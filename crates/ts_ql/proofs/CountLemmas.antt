-- Statements begun: at least one in each state between the first token and the last.
use Rattle.std.proofs.Common.{ℕ, ℤ, ◌+◌, ◌<◌, Bool, true, false, ◌&&◌, Option, Some, None, Result, Ok, Err, arith}
use Rattle.std.specs.Prelude.{⊤, if◌then◌else◌, nat_le, ◌==◌, codes}
use Rattle.ts_ql.specs.declared.state.State.{State}
use Rattle.ts_ql.specs.declared.state.State.TheVariants as states
use Rattle.ts_ql.specs.declared.token.Kind.{Kind}
use Rattle.ts_ql.specs.declared.token.Kind.TheVariants as kinds
use Rattle.ts_ql.specs.QueryFaults.{Fault, unexpected, TooManyStatements}
use Rattle.ts_ql.specs.Literals.{is_word}
use Rattle.ts_ql.specs.Reading.{Progress, Advance, BuilderResult, begun_at, begun, ended_with, ended, with_builder, builder_step, clause_or, next_clause, is_end, may_end, continued, placed_at, after_finishing_time, finish_time_at, finish_time_step, step}
use Rattle.ts_ql.specs.Selects.{Select}
use Rattle.ts_ql.specs.Statements.{statement_query}
use Rattle.ts_ql.specs.Builders.{meaning}
use Rattle.ts_ql.specs.Tokens.{Lexeme}
use Rattle.ts_ql.proofs.Steps.{at}
use Rattle.ts_ql.proofs.MachineLeads.{CountedAt}

abbrev pub Counts : Advance → Type 0
Counts (Ok n) = CountedAt n.state n.count
Counts (Err f) = ⊤

counted_any : (p : State) (count : ℕ) → 0 < count → CountedAt p count
counted_any states.Statement count some = tt
counted_any states.Done count some = tt
counted_any p count some = some

builder_counts : (s : Progress) (r : BuilderResult) → 0 < s.count → Counts (with_builder s r)
builder_counts s (Ok p) some = counted_any p.0 s.count some
builder_counts s (Err f) some = tt

ended_counts : (s : Progress) (k : Kind) (r : Result Select Fault) → 0 < s.count → Counts (ended_with k s r)
ended_counts s k (Ok q) some = counted_any _ s.count some
ended_counts s k (Err f) some = tt

clause_counts : (now : ℤ) (t : Lexeme) (s : Progress) (o : Option State) → 0 < s.count → Counts (clause_or now t s o)
clause_counts now t s None some = builder_counts s (builder_step now s.state t s.builder) some
clause_counts now t s (Some next) some = counted_any next s.count some

continued_counts_if : (now : ℤ) (t : Lexeme) (s : Progress) (b : Bool) → 0 < s.count → Counts (if b then ended now t.kind s else clause_or now t s (next_clause s.state t))
continued_counts_if now t s true some = ended_counts s t.kind (statement_query s.start now (meaning s.builder)) some
continued_counts_if now t s false some = clause_counts now t s (next_clause s.state t) some

continued_counts : (now : ℤ) (t : Lexeme) (s : Progress) → 0 < s.count → Counts (continued now t s)
continued_counts now t s some = continued_counts_if now t s (may_end s.state && is_end t.kind) some

selected_counts : (t : Lexeme) (s : Progress) (b many : Bool) → Counts (if b then (if many then Err (TooManyStatements t.start)
    else Ok (record s { state = states.Function; count = s.count + 1; start = t.start })) else Err (unexpected t))
selected_counts t s true true = tt
selected_counts t s true false = omega arith
selected_counts t s false many = tt

stopped_counts : (t : Lexeme) (s : Progress) (b : Bool) → Counts (if b then Err (unexpected t) else Ok (record s { state = states.Done }))
stopped_counts t s true = tt
stopped_counts t s false = tt

begun_counts : (k : Kind) (t : Lexeme) (s : Progress) → Counts (begun_at k t s)
begun_counts kinds.Keyword t s = selected_counts t s (is_word (codes "select") t.text) (nat_le 16 s.count)
begun_counts kinds.End t s = stopped_counts t s (s.count == 0)
begun_counts k t s = tt

placed_counts : (p : State) (now : ℤ) (t : Lexeme) (s : Progress) → 0 < s.count → Counts (placed_at p now t s)
unfolding begun
placed_counts states.Statement now t s some = begun_counts t.kind t s
placed_counts p now t s some = continued_counts now t s some

finishing_time_counts : (now : ℤ) (t : Lexeme) (s : Progress) (r : BuilderResult) → 0 < s.count → Counts (after_finishing_time now t s r)
finishing_time_counts now t s (Ok p) some = placed_counts p.0 now t (record s { state = p.0; builder = p.1 }) some
finishing_time_counts now t s (Err f) some = tt

counts_at : (p : State) (now : ℤ) (t : Lexeme) (s : Progress) → CountedAt p s.count → Counts (after_finishing_time now t (at p s) (finish_time_at p t.kind s.builder))
unfolding begun builder_step next_clause
counts_at states.Statement now t s some = begun_counts t.kind t (at states.Statement s)
counts_at states.Done now t s some = tt
counts_at p now t s some = finishing_time_counts now t (at p s) (finish_time_at p t.kind s.builder) some

pub counts : (now : ℤ) (t : Lexeme) (s : Progress) → CountedAt s.state s.count → Counts (step now t s)
unfolding step finish_time_step
counts now t s some = counts_at s.state now t s some
