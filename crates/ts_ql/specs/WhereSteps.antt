-- Effect of each token in the conditions of WHERE.
-- (InfluxData 1.8, InfluxQL: the WHERE clause, tags. Own rule: at most 32 open parentheses.)
use Rattle.std.specs.Prelude.{ℕ, ◌+◌, ◌-◌, List, [], ◌∷◌, ◌++◌, Bool, true, false, ◌==◌, nat_lt, Result, Ok, Err, if◌then◌else◌, codes}
use Rattle.ts_core.specs.facts.Facts.{Text}
use Rattle.ts_core.specs.queries.Queries.{Condition}
use Rattle.ts_ql.specs.declared.filter.WhereClause.{WhereClause}
use Rattle.ts_ql.specs.declared.state.State.{State}
use Rattle.ts_ql.specs.declared.state.State.TheVariants as states
use Rattle.ts_ql.specs.declared.token.Kind.{Kind}
use Rattle.ts_ql.specs.declared.token.Kind.TheVariants as kinds
use Rattle.ts_ql.specs.Lists.{spelled_by}
use Rattle.ts_ql.specs.QueryFaults.{Fault, unsupported, unexpected}
use Rattle.ts_ql.specs.Literals.{is_word, text_spelled}
use Rattle.ts_ql.specs.Tokens.{Lexeme}
use Rattle.ts_ql.specs.Keywords.{is_time_column}

-- state of the clause: the tag conditions, the tag and operator of the current one, and the number of open parentheses
pub record Filtered : Type 0 where
  pub conditions : List Condition
  pub tag : Text
  pub negated : Bool
  pub depth : ℕ

abbrev pub filtered : {A : Type 0} → WhereClause A → Filtered
filtered f = record {
  conditions = f.conditions;
  tag = spelled_by f.tag;
  negated = f.negated;
  depth = f.depth;
}

abbrev pub empty_filter : Filtered
empty_filter = record { conditions = []; tag = []; negated = false; depth = 0 }

abbrev pub Filtering : Type 0
Filtering = Result (State × Filtered) Fault

-- the state after a term inside `depth` parentheses
abbrev pub after_term : ℕ → State
after_term depth = if depth == 0 then states.AfterTerm else states.NestedTerm

-- appends the current tag and operator with this value
abbrev pub with_condition : Text → Filtered → Filtered
with_condition value f = record f {
  conditions = f.conditions ++ record { tag = f.tag; value = value; negated = f.negated } ∷ [];
  tag = [];
}

-- the first token of a term, if it is no parenthesis
abbrev pub term_at : Lexeme → Filtered → Filtering
term_at t f = if is_time_column t.kind t.text
    then Ok (states.TimeSign, f) else Ok (states.TagEnd, record f { tag = text_spelled t.text })

abbrev pub where_at : State → Kind → Lexeme → Filtered → Filtering
where_at states.Term kinds.LeftParen t f =
    if nat_lt f.depth 32 then Ok (states.Term, record f { depth = f.depth + 1 }) else Err (unsupported t)
where_at states.Term kinds.Word t f = term_at t f
where_at states.Term kinds.QuotedName t f = term_at t f
where_at states.TagEnd kinds.DoubleColon t f = Ok (states.TagType, f)
where_at states.TagEnd kinds.Equals t f = Ok (states.TagValue, record f { negated = false })
where_at states.TagEnd kinds.NotEqual t f = Ok (states.TagValue, record f { negated = true })
where_at states.TagType kinds.Word t f =
    if is_word (codes "tag") t.text then Ok (states.TagSign, f) else Err (unexpected t)
where_at states.TagSign kinds.Equals t f = Ok (states.TagValue, record f { negated = false })
where_at states.TagSign kinds.NotEqual t f = Ok (states.TagValue, record f { negated = true })
where_at states.TagValue kinds.StringLiteral t f = Ok (after_term f.depth, with_condition (text_spelled t.text) f)
where_at states.AfterTerm kinds.Keyword t f =
    if is_word (codes "and") t.text then Ok (states.Term, f) else Err (unexpected t)
where_at states.NestedTerm kinds.Keyword t f =
    if is_word (codes "and") t.text then Ok (states.Term, f) else Err (unexpected t)
where_at states.NestedTerm kinds.RightParen t f =
    if nat_lt 0 f.depth then Ok (after_term (f.depth - 1), record f { depth = f.depth - 1 }) else Err (unexpected t)
where_at state kind t f = Err (unexpected t)

unfoldable pub where_step : State → Lexeme → Filtered → Filtering
where_step state t f = where_at state t.kind t f
