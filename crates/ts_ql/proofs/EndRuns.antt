-- Ends of statements and beginnings of clauses: the step of each token, and the tokens of each rest.
use Rattle.std.proofs.Common.{◌≡◌, inl, inr, ℤ, ◌+◌, ◌<◌, List, [], ◌∷◌, ◌++◌, Bool, true, false, Option, Some, None, Result, Ok, Err, map, arith, refl, sym, ap, ◌∙◌, subst, append_assoc}
use Rattle.std.proofs.lemmas.Bool.{eqb-false}
use Rattle.std.proofs.lemmas.List.{map-append}
use Rattle.std.specs.Prelude.{codes, nat_le, ◌==◌, if◌then◌else◌}
use Rattle.ts_ql.specs.declared.state.State.{State}
use Rattle.ts_ql.specs.declared.state.State.TheVariants as states
use Rattle.ts_ql.specs.declared.token.Kind.{Kind}
use Rattle.ts_ql.specs.declared.token.Kind.TheVariants as kinds
use Rattle.ts_ql.specs.QueryFaults.{Fault, unexpected, TooManyStatements}
use Rattle.ts_ql.specs.Grammar.{Item, Any, Of, Examine, Call, Statement, Ending, Stop, RightParen, Next}
use Rattle.ts_ql.specs.Laws.{Reach, At, ReadsTokens}
use Rattle.ts_ql.specs.Literals.{is_word}
use Rattle.ts_ql.specs.Reading.{Progress, Advance, begun_at, after_end, ended_with, ended}
use Rattle.ts_ql.specs.Selects.{Select}
use Rattle.ts_ql.specs.Productions.{fault_in, count_fault}
use Rattle.ts_ql.specs.Statements.{statement_query}
use Rattle.ts_ql.specs.Builders.{BuilderState, meaning, empty_builder}
use Rattle.ts_ql.specs.Tokens.{Lexeme}
use Rattle.ts_ql.proofs.Rests.{SelectTail, Rest, left_at, left_ending, left_statement, said_ending, said_at, said_statement, SoundAt, SuitsAt}
use Rattle.ts_ql.proofs.Completions.{aggregate as any_aggregate, select_tail as any_tail}
use Rattle.ts_ql.proofs.Steps.{at, Back, Faulty, Answer, Leads, passes, fails, passed, failed}
use Rattle.ts_core.proofs.store.LowIndices.{not_zero}

-- ---- the end of a statement

-- a state in which a statement may end, with its rests that are endings
pub record EndsAt (now : ℤ) (s : Progress) (p : State) : Type 0 where
  pub rest : Ending → Rest p
  pub suits : (e : Ending) → SuitsAt p (at p s) (rest e)
  pub left_same : (e : Ending) → left_at p now (at p s) (rest e) ≡ left_ending now s (meaning s.builder) e
  pub said_same : (e : Ending) → said_at p now (at p s) (rest e) ≡ said_ending now s (meaning s.builder) e

-- the state after the end
abbrev after : Progress → Kind → Select → Progress
after s k query = record s { state = after_end k; builder = empty_builder; queries = s.queries ++ query ∷ [] }

-- the queries with one more statement
said_more : (s : Progress) (query : Select) (rest : List (Result Select Fault)) → map Ok s.queries ++ Ok query ∷ rest ≡ map Ok (s.queries ++ query ∷ []) ++ rest
said_more s query rest =
    sym (ap (λ (qs : List (Result Select Fault)). qs ++ rest) (map-append Ok s.queries (query ∷ [])) ∙ append_assoc (map Ok s.queries) (Ok query ∷ []) rest)

abbrev examined : ℤ → Progress → Option Fault
examined now s = fault_in (statement_query s.start now (meaning s.builder))

-- after a semicolon
semicolon_back : (now : ℤ) (s : Progress) (p : State) (t : Lexeme) → t.kind ≡ kinds.Semicolon → EndsAt now s p → (query : Select)
    → statement_query s.start now (meaning s.builder) ≡ Ok query → Back now (at p s) (after s kinds.Semicolon query) t
semicolon_back now s p t e w query said None suits = (
  w.rest RightParen,
  w.suits RightParen,
  (λ ts reach v. subst (λ (is : List Item). ReadsTokens is (t ∷ ts) reach) (sym (w.left_same RightParen))
      (e, passes (examined now s) (Any (Of kinds.End) ∷ []) ts reach (ap fault_in said) v)),
  ap (λ (qs : List (Result Select Fault)). map Ok s.queries ++ qs) (w.said_same RightParen ∙ ap (λ (r : Result Select Fault). r ∷ []) said) ∙ said_more s query [],
)
semicolon_back now s p t e w query said (Some r) suits = (
  w.rest (Next r.0 r.1),
  w.suits (Next r.0 r.1),
  (λ ts reach v. subst (λ (is : List Item). ReadsTokens is (t ∷ ts) reach) (sym (w.left_same (Next r.0 r.1)))
      (e, passes (examined now s) (left_statement now s (Some r)) ts reach (ap fault_in said) v)),
  ap (λ (qs : List (Result Select Fault)). map Ok s.queries ++ qs) (w.said_same (Next r.0 r.1) ∙ ap (λ (x : Result Select Fault). x ∷ said_statement now (Some r)) said)
      ∙ said_more s query (said_statement now (Some r)),
)

-- at the end of the text
end_back : (now : ℤ) (s : Progress) (p : State) (t : Lexeme) → t.kind ≡ kinds.End → EndsAt now s p → (query : Select)
    → statement_query s.start now (meaning s.builder) ≡ Ok query → Back now (at p s) (after s kinds.End query) t
end_back now s p t e w query said r suits = (
  w.rest Stop,
  w.suits Stop,
  (λ ts reach v. subst (λ (is : List Item). ReadsTokens is (t ∷ ts) reach) (sym (w.left_same Stop))
      (e, passes (examined now s) [] ts reach (ap fault_in said) v)),
  ap (λ (qs : List (Result Select Fault)). map Ok s.queries ++ qs) (w.said_same Stop ∙ ap (λ (x : Result Select Fault). x ∷ []) said) ∙ said_more s query [],
)

-- a whole statement is at fault
semicolon_faulty : (now : ℤ) (s : Progress) (p : State) (t : Lexeme) → t.kind ≡ kinds.Semicolon → EndsAt now s p → (f : Fault)
    → statement_query s.start now (meaning s.builder) ≡ Err f → Faulty now (at p s) t f
semicolon_faulty now s p t e w f said = (
  w.rest RightParen,
  w.suits RightParen,
  inr (subst (λ (is : List Item). ReadsTokens is (t ∷ []) (At f)) (sym (w.left_same RightParen))
      (e, fails (examined now s) (Any (Of kinds.End) ∷ []) f (ap fault_in said))),
)

end_faulty : (now : ℤ) (s : Progress) (p : State) (t : Lexeme) → t.kind ≡ kinds.End → EndsAt now s p → (f : Fault)
    → statement_query s.start now (meaning s.builder) ≡ Err f → Faulty now (at p s) t f
end_faulty now s p t e w f said = (
  w.rest Stop,
  w.suits Stop,
  inr (subst (λ (is : List Item). ReadsTokens is (t ∷ []) (At f)) (sym (w.left_same Stop))
      (e, fails (examined now s) [] f (ap fault_in said))),
)

semicolon_said : (now : ℤ) (s : Progress) (p : State) (t : Lexeme) → t.kind ≡ kinds.Semicolon → EndsAt now s p → (r : Result Select Fault)
    → statement_query s.start now (meaning s.builder) ≡ r → Answer now (at p s) t (ended_with kinds.Semicolon (at p s) r)
semicolon_said now s p t e w (Ok query) said = (refl, semicolon_back now s p t e w query said)
semicolon_said now s p t e w (Err f) said = inl (semicolon_faulty now s p t e w f said)

end_said : (now : ℤ) (s : Progress) (p : State) (t : Lexeme) → t.kind ≡ kinds.End → EndsAt now s p → (r : Result Select Fault)
    → statement_query s.start now (meaning s.builder) ≡ r → Answer now (at p s) t (ended_with kinds.End (at p s) r)
end_said now s p t e w (Ok query) said = (tt, end_back now s p t e w query said)
end_said now s p t e w (Err f) said = inl (end_faulty now s p t e w f said)

pub semicolon_answers : (now : ℤ) (s : Progress) (p : State) (t : Lexeme) → t.kind ≡ kinds.Semicolon → EndsAt now s p → Answer now (at p s) t (ended now kinds.Semicolon (at p s))
semicolon_answers now s p t e w = semicolon_said now s p t e w (statement_query s.start now (meaning s.builder)) refl

pub end_answers : (now : ℤ) (s : Progress) (p : State) (t : Lexeme) → t.kind ≡ kinds.End → EndsAt now s p → Answer now (at p s) t (ended now kinds.End (at p s))
end_answers now s p t e w = end_said now s p t e w (statement_query s.start now (meaning s.builder)) refl

-- ---- from trees

-- the step at the end of a statement
abbrev pub end_steps : ℤ → Progress → State → Kind → Advance
end_steps now s p k = ended now k (at p s)

ending_said : (now : ℤ) (s : Progress) (p : State) (w : EndsAt now s p) (e : Ending) (t : Lexeme) (ts : List Lexeme) (reach : Reach) → 0 < s.count
    → ReadsTokens (left_ending now s (meaning s.builder) e) (t ∷ ts) reach → (r : Result Select Fault) → statement_query s.start now (meaning s.builder) ≡ r
    → Leads now (at p s) (w.rest e) ts reach (ended_with t.kind (at p s) r)
ending_said now s p w Stop t ts reach some v (Ok query) said =
    subst (λ (k : Kind). Leads now (at p s) (w.rest Stop) ts reach (Ok (after s k query))) (sym v.0) (
      tt,
      tt,
      passed (examined now s) [] ts reach (ap fault_in said) v.1,
      ap (λ (qs : List (Result Select Fault)). map Ok s.queries ++ qs) (w.said_same Stop ∙ ap (λ (x : Result Select Fault). x ∷ []) said) ∙ said_more s query [],
    )
ending_said now s p w RightParen t ts reach some v (Ok query) said =
    subst (λ (k : Kind). Leads now (at p s) (w.rest RightParen) ts reach (Ok (after s k query))) (sym v.0) (
      None,
      some,
      passed (examined now s) (Any (Of kinds.End) ∷ []) ts reach (ap fault_in said) v.1,
      ap (λ (qs : List (Result Select Fault)). map Ok s.queries ++ qs) (w.said_same RightParen ∙ ap (λ (x : Result Select Fault). x ∷ []) said) ∙ said_more s query [],
    )
ending_said now s p w (Next n rest) t ts reach some v (Ok query) said =
    subst (λ (k : Kind). Leads now (at p s) (w.rest (Next n rest)) ts reach (Ok (after s k query))) (sym v.0) (
      Some (n, rest),
      tt,
      passed (examined now s) (left_statement now s (Some (n, rest))) ts reach (ap fault_in said) v.1,
      ap (λ (qs : List (Result Select Fault)). map Ok s.queries ++ qs) (w.said_same (Next n rest) ∙ ap (λ (x : Result Select Fault). x ∷ said_statement now (Some (n, rest))) said)
          ∙ said_more s query (said_statement now (Some (n, rest))),
    )
ending_said now s p w Stop t ts reach some v (Err f) said = failed (examined now s) [] ts reach f (ap fault_in said) v.1
ending_said now s p w RightParen t ts reach some v (Err f) said = failed (examined now s) (Any (Of kinds.End) ∷ []) ts reach f (ap fault_in said) v.1
ending_said now s p w (Next n rest) t ts reach some v (Err f) said = failed (examined now s) (left_statement now s (Some (n, rest))) ts reach f (ap fault_in said) v.1

pub ending_leads : (now : ℤ) (s : Progress) (p : State) (w : EndsAt now s p) (e : Ending) (t : Lexeme) (ts : List Lexeme) (reach : Reach) → 0 < s.count
    → ReadsTokens (left_at p now (at p s) (w.rest e)) (t ∷ ts) reach → Leads now (at p s) (w.rest e) ts reach (end_steps now s p t.kind)
ending_leads now s p w e t ts reach some v =
    ending_said now s p w e t ts reach some (subst (λ (is : List Item). ReadsTokens is (t ∷ ts) reach) (w.left_same e) v) (statement_query s.start now (meaning s.builder)) refl

-- ---- the beginning of a statement

-- an unread statement that begins with the token
abbrev begun_by : Lexeme → Call → SelectTail → Statement
begun_by t a tail = record { select = t; first = a; more = tail.0; source = tail.1.0; filter = tail.1.1.0; group = tail.1.1.1.0; fill = tail.1.1.1.1.0 }

abbrev ending_behind : SelectTail → Ending
ending_behind tail = tail.1.1.1.1.1

abbrev fresh : Progress → Progress
fresh s = record s { builder = empty_builder }

select_back : (now : ℤ) (s : Progress) (t : Lexeme) → t.kind ≡ kinds.Keyword → is_word (codes "select") t.text ≡ true → nat_le 16 s.count ≡ false
    → Back now (at states.Statement (fresh s)) (record (at states.Function (fresh s)) { count = s.count + 1; start = t.start }) t
select_back now s t e is few r suits = (
  Some (begun_by t r.0 r.1, ending_behind r.1),
  tt,
  (λ ts reach v. (refl, (e, is), passes (count_fault s.count t) _ ts reach (ap (λ (b : Bool). if b then Some (TooManyStatements t.start) else None) few) v)),
  refl,
)

select_counted : (now : ℤ) (s : Progress) (t : Lexeme) → t.kind ≡ kinds.Keyword → is_word (codes "select") t.text ≡ true → (b : Bool) → nat_le 16 s.count ≡ b
    → Answer now (at states.Statement (fresh s)) t (if b then Err (TooManyStatements t.start)
    else Ok (record (at states.Function (fresh s)) { count = s.count + 1; start = t.start }))
select_counted now s t e is true many =
    inl (
      Some (begun_by t any_aggregate any_tail, Stop),
      tt,
      inr (refl, (e, is), fails (count_fault s.count t) _ (TooManyStatements t.start) (ap (λ (b : Bool). if b then Some (TooManyStatements t.start) else None) many)),
    )
select_counted now s t e is false few = (refl, select_back now s t e is few)

select_answers_if : (now : ℤ) (s : Progress) (t : Lexeme) → t.kind ≡ kinds.Keyword → (b : Bool) → is_word (codes "select") t.text ≡ b
    → Answer now (at states.Statement (fresh s)) t (if b then (if nat_le 16 s.count then Err (TooManyStatements t.start)
    else Ok (record (at states.Function (fresh s)) { count = s.count + 1; start = t.start })) else Err (unexpected t))
select_answers_if now s t e true is = select_counted now s t e is (nat_le 16 s.count) refl
select_answers_if now s t e false is = inr refl

stop_answers_if : (now : ℤ) (s : Progress) (t : Lexeme) → t.kind ≡ kinds.End → (b : Bool) → (s.count == 0) ≡ b
    → Answer now (at states.Statement (fresh s)) t (if b then Err (unexpected t) else Ok (at states.Done (fresh s)))
stop_answers_if now s t e true is = inr refl
stop_answers_if now s t e false is =
    let other : s.count ≡ 0 → ⊥ = eqb-false s.count 0 is in
    (tt, λ r suits. (None, omega (arith, other), (λ ts reach v. (e, v)), refl))

begun_answers_at : (now : ℤ) (s : Progress) (k : Kind) (t : Lexeme) → t.kind ≡ k → Answer now (at states.Statement (fresh s)) t (begun_at k t (at states.Statement (fresh s)))
begun_answers_at now s kinds.Keyword t e = select_answers_if now s t e (is_word (codes "select") t.text) refl
begun_answers_at now s kinds.End t e = stop_answers_if now s t e (s.count == 0) refl
begun_answers_at now s k t e = inr refl

pub begun_answers : (now : ℤ) (s : Progress) (t : Lexeme) → SoundAt states.Statement (at states.Statement s)
    → Answer now (at states.Statement s) t (begun_at t.kind t (at states.Statement s))
begun_answers now s t sound =
    subst (λ (d : BuilderState). Answer now (at states.Statement (record s { builder = d })) t (begun_at t.kind t (at states.Statement (record s { builder = d })))) (sym sound)
    (begun_answers_at now s t.kind t refl)

abbrev begun_steps : Progress → Lexeme → Kind → Advance
begun_steps s t k = begun_at k t (at states.Statement (fresh s))

-- the statement that the token begins
abbrev selected_by : Lexeme → Statement → Statement
selected_by t st = record st { select = t }

-- the tokens of a statement after SELECT
abbrev behind_select : ℤ → Progress → Statement → Ending → List Item
behind_select now s st e =
    left_at states.Function now (record (at states.Function (fresh s)) { count = s.count + 1; start = st.select.start })
    (st.first, (st.more, (st.source, (st.filter, (st.group, (st.fill, e))))))

select_leads_if : (now : ℤ) (s : Progress) (st : Statement) (e : Ending) (t : Lexeme) (ts : List Lexeme) (reach : Reach) (b : Bool) → nat_le 16 s.count ≡ b
    → ReadsTokens (Examine (count_fault s.count t) ∷ behind_select now s (selected_by t st) e) ts reach
    → Leads now (at states.Statement (fresh s)) (Some (selected_by t st, e)) ts reach (if b then Err (TooManyStatements t.start)
    else Ok (record (at states.Function (fresh s)) { count = s.count + 1; start = t.start }))
select_leads_if now s st e t ts reach true many v =
    failed (count_fault s.count t) _ ts reach (TooManyStatements t.start) (ap (λ (b : Bool). if b then Some (TooManyStatements t.start) else None) many) v
select_leads_if now s st e t ts reach false few v = (
  (st.first, (st.more, (st.source, (st.filter, (st.group, (st.fill, e)))))),
  tt,
  passed (count_fault s.count t) _ ts reach (ap (λ (b : Bool). if b then Some (TooManyStatements t.start) else None) few) v,
  refl,
)

select_leads_of : (now : ℤ) (s : Progress) (st : Statement) (e : Ending) (t : Lexeme) (ts : List Lexeme) (reach : Reach)
    → ReadsTokens (left_statement now s (Some (selected_by t st, e))) (t ∷ ts) reach
    → Leads now (at states.Statement (fresh s)) (Some (selected_by t st, e)) ts reach (begun_steps s t t.kind)
select_leads_of now s st e t ts reach v =
    subst (λ (k : Kind). Leads now (at states.Statement (fresh s)) (Some (selected_by t st, e)) ts reach (begun_steps s t k)) (sym v.1.0)
    (rw (v.1.1) (select_leads_if now s st e t ts reach (nat_le 16 s.count) refl v.2))

begun_leads_at : (now : ℤ) (s : Progress) (q : Rest states.Statement) (t : Lexeme) (ts : List Lexeme) (reach : Reach) → SuitsAt states.Statement (at states.Statement s) q
    → ReadsTokens (left_statement now s q) (t ∷ ts) reach → Leads now (at states.Statement (fresh s)) q ts reach (begun_steps s t t.kind)
begun_leads_at now s None t ts reach suits v =
    subst (λ (k : Kind). Leads now (at states.Statement (fresh s)) None ts reach (begun_steps s t k)) (sym v.0)
    (rw (not_zero s.count suits) (tt, tt, v.1, refl))
begun_leads_at now s (Some r) t ts reach suits v =
    subst (λ (x : Lexeme). ReadsTokens (left_statement now s (Some (selected_by x r.0, r.1))) (t ∷ ts) reach
    → Leads now (at states.Statement (fresh s)) (Some (selected_by x r.0, r.1)) ts reach (begun_steps s t t.kind)) v.0
    (select_leads_of now s r.0 r.1 t ts reach) v

pub begun_leads : (now : ℤ) (s : Progress) (q : Rest states.Statement) (t : Lexeme) (ts : List Lexeme) (reach : Reach) → SoundAt states.Statement (at states.Statement s)
    → SuitsAt states.Statement (at states.Statement s) q → ReadsTokens (left_at states.Statement now (at states.Statement s) q) (t ∷ ts) reach
    → Leads now (at states.Statement s) q ts reach (begun_at t.kind t (at states.Statement s))
begun_leads now s q t ts reach sound suits v =
    subst (λ (d : BuilderState). Leads now (at states.Statement (record s { builder = d })) q ts reach (begun_at t.kind t (at states.Statement (record s { builder = d })))) (sym sound)
    (begun_leads_at now s q t ts reach suits v)
