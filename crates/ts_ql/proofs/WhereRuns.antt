-- Tag conditions and parentheses of WHERE: the step of each token, and the tokens of each rest.
use Rattle.std.proofs.Common.{◌≡◌, inl, inr, ℕ, ℤ, ◌+◌, ◌-◌, ◌<◌, List, [], ◌∷◌, ◌++◌, Bool, true, false, Some, None, Result, Ok, Err, map, arith, refl, sym, ap, ◌∙◌, subst}
use Rattle.std.proofs.lemmas.Bool.{lt-ltb, eqb-true, eqb-false}
use Rattle.std.specs.Prelude.{codes, nat_lt, ◌==◌, if◌then◌else◌}
use Rattle.ts_core.specs.facts.Facts.{Text}
use Rattle.ts_ql.specs.declared.state.State.{State}
use Rattle.ts_ql.specs.declared.state.State.TheVariants as states
use Rattle.ts_ql.specs.declared.token.Kind.{Kind}
use Rattle.ts_ql.specs.declared.token.Kind.TheVariants as kinds
use Rattle.ts_ql.specs.declared.moment.Comparison.{Comparison}
use Rattle.ts_ql.specs.QueryFaults.{Fault, unexpected, unsupported}
use Rattle.ts_ql.specs.Grammar.{Of, Item, Any, This, Examine, Instant, Cond, Compare, Match, Group, And, is_name}
use Rattle.ts_ql.specs.Laws.{Reach, ReadsTokens}
use Rattle.ts_ql.specs.Literals.{is_word, text_spelled}
use Rattle.ts_ql.specs.Meanings.{after_cond}
use Rattle.ts_ql.specs.Reading.{Progress, Advance, with_builder, in_filter}
use Rattle.ts_ql.specs.Selects.{Select}
use Rattle.ts_ql.specs.Productions.{spell_cond, spell_tag_type, depth_fault, equality}
use Rattle.ts_ql.specs.Statements.{Meaning}
use Rattle.ts_ql.specs.Builders.{BuilderState, meaning}
use Rattle.ts_ql.specs.Tokens.{Lexeme}
use Rattle.ts_ql.specs.WhereSteps.{Filtered, Filtering, with_condition, term_at, where_at, after_term}
use Rattle.ts_ql.specs.Keywords.{is_time_column, named}
use Rattle.ts_ql.proofs.Completions.{closing_of, closing_levels}
use Rattle.ts_ql.proofs.Rests.{Closing, Outside, Inside, GroupTail, levels, after_conds, spell_conds, Rest, left, left_at, left_closing, with_match, said_closing, all_said, SoundAt, Suits, SuitsAt}
use Rattle.ts_ql.proofs.Steps.{at, Answer, Leads, passes, fails, passed, failed}

abbrev pub filtering : Progress → State → Filtering → Advance
filtering s p step = with_builder (at p s) (in_filter s.builder step)

-- ---- several conditions as one

abbrev pub joined : Cond → List Cond → Cond
joined c [] = c
joined c (d ∷ ds) = joined (And c d) ds

pub spell_joined : (now : ℤ) (depth : ℕ) (c : Cond) (cs : List Cond) (rest : List Item)
    → spell_cond now depth (joined c cs) rest ≡ spell_cond now depth c (spell_conds now depth cs rest)
spell_joined now depth c [] rest = refl
spell_joined now depth c (d ∷ ds) rest = spell_joined now depth (And c d) ds rest

pub after_joined : (now : ℤ) (p : Meaning) (c : Cond) (cs : List Cond) → after_cond now p (joined c cs) ≡ after_conds now (after_cond now p c) cs
after_joined now p c [] = refl
after_joined now p c (d ∷ ds) = after_joined now p (And c d) ds

-- ---- to trees

-- a rest here spells the token before these items, and says the same
abbrev pub Behind : ℤ → (s : Progress) → Lexeme → List Item → List (Result Select Fault) → Type 0
Behind now s t items said =
    (q : Rest s.state) × Suits s q × ((ts : List Lexeme) (reach : Reach) → ReadsTokens items ts reach → ReadsTokens (left now s q) (t ∷ ts) reach)
    × (all_said now s q ≡ map Ok s.queries ++ said)

-- after a term at that depth
pub closes : (now : ℤ) (s : Progress) (t : Lexeme) (d : BuilderState)
    → ((c : Closing) → d.filter.depth ≡ levels c → Behind now s t (left_closing now s (meaning d) c) (said_closing now s (meaning d) c))
    → (b : Bool) → (d.filter.depth == 0) ≡ b → Answer now s t (Ok (record s { state = if b then states.AfterTerm else states.NestedTerm; builder = d }))
closes now s t d back true e = (eqb-true d.filter.depth 0 e, λ r suits. back r suits)
closes now s t d back false e =
    let other : d.filter.depth ≡ 0 → ⊥ = eqb-false d.filter.depth 0 e in (omega (arith, other), λ r suits. back r suits)

no_depth_fault : (depth levels : ℕ) (t : Lexeme) → depth ≡ levels → nat_lt depth 32 ≡ true → depth_fault levels t ≡ None
no_depth_fault depth levels t same lt = ap (λ (n : ℕ). depth_fault n t) (sym same) ∙ ap (λ (b : Bool). if b then None else Some (unsupported t)) lt

a_depth_fault : (depth levels : ℕ) (t : Lexeme) → depth ≡ levels → nat_lt depth 32 ≡ false → depth_fault levels t ≡ Some (unsupported t)
a_depth_fault depth levels t same lt = ap (λ (n : ℕ). depth_fault n t) (sym same) ∙ ap (λ (b : Bool). if b then None else Some (unsupported t)) lt

abbrev group_items : ℤ → Progress → Cond → Closing → Meaning → List Item
group_items now s c outer p = spell_cond now (levels outer + 1) c (Any (Of kinds.RightParen) ∷ left_closing now s p outer)

group_back : (now : ℤ) (s : Progress) (t : Lexeme) → t.kind ≡ kinds.LeftParen → nat_lt s.builder.filter.depth 32 ≡ true
    → (c : Cond) (closing : Closing) → s.builder.filter.depth + 1 ≡ levels closing
    → Behind now (at states.Term s) t (spell_cond now (levels closing) c (left_closing now s (after_cond now (meaning s.builder) c) closing))
    (said_closing now s (after_cond now (meaning s.builder) c) closing)
group_back now s t e lt c (Outside cs tail) suits = absurd (omega (arith, suits))
group_back now s t e lt c (Inside cs outer) suits =
    let same : s.builder.filter.depth ≡ levels outer = omega (arith, suits) in
    let after : after_cond now (meaning s.builder) (joined c cs) ≡ after_conds now (after_cond now (meaning s.builder) c) cs = after_joined now (meaning s.builder) c cs in
    let items : group_items now s (joined c cs) outer (after_cond now (meaning s.builder) (joined c cs))
    ≡ spell_cond now (levels outer + 1) c (left_closing now s (after_cond now (meaning s.builder) c) (Inside cs outer))
    = ap (group_items now s (joined c cs) outer) after
    ∙ spell_joined now (levels outer + 1) c cs (Any (Of kinds.RightParen) ∷ left_closing now s (after_conds now (after_cond now (meaning s.builder) c) cs) outer) in (
      (Group t (joined c cs), outer),
      same,
      (λ ts reach w. (
        refl,
        e,
        passes (depth_fault (levels outer) t) (group_items now s (joined c cs) outer (after_cond now (meaning s.builder) (joined c cs))) ts reach
            (no_depth_fault s.builder.filter.depth (levels outer) t same lt) (subst (λ (l : List Item). ReadsTokens l ts reach) (sym items) w),
      )),
      ap (λ (p : Meaning). map Ok s.queries ++ said_closing now s p outer) after,
    )

opened : (now : ℤ) (s : Progress) (t : Lexeme) → t.kind ≡ kinds.LeftParen → (b : Bool) → nat_lt s.builder.filter.depth 32 ≡ b
    → Answer now (at states.Term s) t (filtering s states.Term
    (if b then Ok (states.Term, record s.builder.filter { depth = s.builder.filter.depth + 1 }) else Err (unsupported t)))
opened now s t e true lt = (tt, λ r suits. group_back now s t e lt r.0 r.1 suits)
opened now s t e false lt =
    let outer : Closing = closing_of s.builder.filter.depth in
    let same : s.builder.filter.depth ≡ levels outer = closing_levels s.builder.filter.depth in
    inl (
      (Group t (Match t false false t), outer),
      same,
      inr (
        refl,
        e,
        fails (depth_fault (levels outer) t) (group_items now s (Match t false false t) outer (after_cond now (meaning s.builder) (Match t false false t))) (unsupported t)
            (a_depth_fault s.builder.filter.depth (levels outer) t same lt),
      ),
    )

-- time, or a tag
term_answers : (now : ℤ) (s : Progress) (t : Lexeme) → is_name t.kind ≡ true → (b : Bool) → is_time_column t.kind t.text ≡ b
    → Answer now (at states.Term s) t (filtering s states.Term
    (if b then Ok (states.TimeSign, s.builder.filter) else Ok (states.TagEnd, record s.builder.filter { tag = text_spelled t.text })))
term_answers now s t e true is = (tt, λ r suits. ((Compare t r.0 r.1.0, r.1.1), suits, (λ ts reach w. (refl, is, w)), refl))
term_answers now s t e false is = (tt, λ r suits. ((Match t r.0 r.1.0 r.1.1.0, r.1.1.1), suits, (λ ts reach w. (refl, (e, is), w)), refl))

type_answers : (now : ℤ) (s : Progress) (t : Lexeme) → t.kind ≡ kinds.Word → (b : Bool) → is_word (codes "tag") t.text ≡ b
    → Answer now (at states.TagType s) t (filtering s states.TagType (if b then Ok (states.TagSign, s.builder.filter) else Err (unexpected t)))
type_answers now s t e true is = (tt, λ r suits. (r, suits, (λ ts reach w. ((e, is), w)), refl))
type_answers now s t e false is = inr refl

-- AND after a term, outside of parentheses or inside
and_back : (now : ℤ) (s : Progress) (t : Lexeme) → t.kind ≡ kinds.Keyword → is_word (codes "and") t.text ≡ true → s.builder.filter.depth ≡ 0
    → (c : Cond) (closing : Closing) → s.builder.filter.depth ≡ levels closing
    → Behind now (at states.AfterTerm s) t (spell_cond now (levels closing) c (left_closing now s (after_cond now (meaning s.builder) c) closing))
    (said_closing now s (after_cond now (meaning s.builder) c) closing)
and_back now s t e is sound c (Outside cs tail) suits = (Outside (c ∷ cs) tail, suits, (λ ts reach w. ((e, is), w)), refl)
and_back now s t e is sound c (Inside cs outer) suits = absurd (omega (arith, sound, suits))

nested_and_back : (now : ℤ) (s : Progress) (t : Lexeme) → t.kind ≡ kinds.Keyword → is_word (codes "and") t.text ≡ true → 0 < s.builder.filter.depth
    → (c : Cond) (closing : Closing) → s.builder.filter.depth ≡ levels closing
    → Behind now (at states.NestedTerm s) t (spell_cond now (levels closing) c (left_closing now s (after_cond now (meaning s.builder) c) closing))
    (said_closing now s (after_cond now (meaning s.builder) c) closing)
nested_and_back now s t e is sound c (Outside cs tail) suits = absurd (omega (arith, sound, suits))
nested_and_back now s t e is sound c (Inside cs outer) suits = (Inside (c ∷ cs) outer, suits, (λ ts reach w. ((e, is), w)), refl)

and_answers : (now : ℤ) (s : Progress) (t : Lexeme) → t.kind ≡ kinds.Keyword → s.builder.filter.depth ≡ 0 → (b : Bool) → is_word (codes "and") t.text ≡ b
    → Answer now (at states.AfterTerm s) t (filtering s states.AfterTerm (if b then Ok (states.Term, s.builder.filter) else Err (unexpected t)))
and_answers now s t e sound true is = (tt, λ r suits. and_back now s t e is sound r.0 r.1 suits)
and_answers now s t e sound false is = inr refl

nested_and_answers : (now : ℤ) (s : Progress) (t : Lexeme) → t.kind ≡ kinds.Keyword → 0 < s.builder.filter.depth → (b : Bool) → is_word (codes "and") t.text ≡ b
    → Answer now (at states.NestedTerm s) t (filtering s states.NestedTerm (if b then Ok (states.Term, s.builder.filter) else Err (unexpected t)))
nested_and_answers now s t e sound true is = (tt, λ r suits. nested_and_back now s t e is sound r.0 r.1 suits)
nested_and_answers now s t e sound false is = inr refl

-- one parenthesis less
abbrev closed_builder : Progress → BuilderState
closed_builder s = record s.builder { filter = record s.builder.filter { depth = s.builder.filter.depth - 1 } }

close_answers : (now : ℤ) (s : Progress) (t : Lexeme) → t.kind ≡ kinds.RightParen → 0 < s.builder.filter.depth → (b : Bool) → nat_lt 0 s.builder.filter.depth ≡ b
    → Answer now (at states.NestedTerm s) t (filtering s states.NestedTerm
    (if b then Ok (after_term (s.builder.filter.depth - 1), record s.builder.filter { depth = s.builder.filter.depth - 1 }) else Err (unexpected t)))
close_answers now s t e sound true lt =
    closes now (at states.NestedTerm s) t (closed_builder s)
    (λ c suits. (Inside [] c, omega (arith, sound, suits), (λ ts reach w. (e, w)), refl)) (s.builder.filter.depth - 1 == 0) refl
close_answers now s t e sound false lt = inr refl

abbrev matched_builder : Progress → Lexeme → BuilderState
matched_builder s t = record s.builder { filter = with_condition (text_spelled t.text) s.builder.filter }

pub where_answers : (now : ℤ) (s : Progress) (p : State) (k : Kind) (t : Lexeme) → t.kind ≡ k → SoundAt p (at p s)
    → Answer now (at p s) t (filtering s p (where_at p k t s.builder.filter))
where_answers now s states.Term kinds.LeftParen t e sound = opened now s t e (nat_lt s.builder.filter.depth 32) refl
where_answers now s states.Term kinds.Word t e sound = term_answers now s t (ap is_name e) (is_time_column t.kind t.text) refl
where_answers now s states.Term kinds.QuotedName t e sound = term_answers now s t (ap is_name e) (is_time_column t.kind t.text) refl
where_answers now s states.TagEnd kinds.DoubleColon t e sound = (tt, λ r suits. ((true, r), suits, (λ ts reach w. (e, w)), refl))
where_answers now s states.TagEnd kinds.Equals t e sound = (tt, λ r suits. ((false, (false, r)), suits, (λ ts reach w. (e, w)), refl))
where_answers now s states.TagEnd kinds.NotEqual t e sound = (tt, λ r suits. ((false, (true, r)), suits, (λ ts reach w. (e, w)), refl))
where_answers now s states.TagType kinds.Word t e sound = type_answers now s t e (is_word (codes "tag") t.text) refl
where_answers now s states.TagSign kinds.Equals t e sound = (tt, λ r suits. ((false, r), suits, (λ ts reach w. (e, w)), refl))
where_answers now s states.TagSign kinds.NotEqual t e sound = (tt, λ r suits. ((true, r), suits, (λ ts reach w. (e, w)), refl))
where_answers now s states.TagValue kinds.StringLiteral t e sound =
    closes now (at states.TagValue s) t (matched_builder s t) (λ c suits. ((t, c), suits, (λ ts reach w. (refl, e, w)), refl)) (s.builder.filter.depth == 0) refl
where_answers now s states.AfterTerm kinds.Keyword t e sound = and_answers now s t e sound (is_word (codes "and") t.text) refl
where_answers now s states.NestedTerm kinds.Keyword t e sound = nested_and_answers now s t e sound (is_word (codes "and") t.text) refl
where_answers now s states.NestedTerm kinds.RightParen t e sound = close_answers now s t e sound (nat_lt 0 s.builder.filter.depth) refl
where_answers now s p k t e sound = inr refl

-- ---- from trees

-- the step by the kind of the token
abbrev pub where_steps : Progress → State → Lexeme → Kind → Advance
where_steps s p t k = filtering s p (where_at p k t s.builder.filter)

-- after a term at that depth
pub closing_leads : (now : ℤ) (s : Progress) (q : Rest s.state) (ts : List Lexeme) (reach : Reach) (d : BuilderState) (c : Closing) (b : Bool) → d.filter.depth ≡ levels c
    → ReadsTokens (left_closing now s (meaning d) c) ts reach → all_said now s q ≡ map Ok s.queries ++ said_closing now s (meaning d) c
    → Leads now s q ts reach (Ok (record s { state = if b then states.AfterTerm else states.NestedTerm; builder = d }))
closing_leads now s q ts reach d c true suits w said = (c, suits, w, said)
closing_leads now s q ts reach d c false suits w said = (c, suits, w, said)

-- ---- the first token of a term

pub time_is_name : (k : Kind) (text : Text) → is_time_column k text ≡ true → is_name k ≡ true
unfolding is_time_column
time_is_name kinds.Word text is = refl
time_is_name kinds.QuotedName text is = refl
time_is_name k text is = absurd cc

name_step : (k : Kind) (t : Lexeme) (f : Filtered) → is_name k ≡ true → where_at states.Term k t f ≡ term_at t f
name_step kinds.Word t f is = refl
name_step kinds.QuotedName t f is = refl
name_step k t f is = absurd cc

abbrev name_steps : Progress → Lexeme → Bool → Advance
name_steps s t b = filtering s states.Term (if b then Ok (states.TimeSign, s.builder.filter) else Ok (states.TagEnd, record s.builder.filter { tag = text_spelled t.text }))

compare_leads : (now : ℤ) (s : Progress) (l : Lexeme) (c : Comparison) (i : Instant) (closing : Closing) (t : Lexeme) (ts : List Lexeme) (reach : Reach)
    → SuitsAt states.Term (at states.Term s) (Compare l c i, closing)
    → ReadsTokens (left_at states.Term now (at states.Term s) (Compare l c i, closing)) (t ∷ ts) reach
    → Leads now (at states.Term s) (Compare l c i, closing) ts reach (where_steps s states.Term t t.kind)
compare_leads now s l c i closing t ts reach suits w =
    let stepped : where_steps s states.Term t t.kind ≡ name_steps s t true
    = ap (filtering s states.Term) (name_step t.kind t s.builder.filter (time_is_name t.kind t.text w.1)) ∙ ap (name_steps s t) w.1 in
    subst (Leads now (at states.Term s) (Compare l c i, closing) ts reach) (sym stepped) ((c, (i, closing)), suits, w.2, refl)

abbrev tag_items : ℤ → Progress → Bool → Bool → Lexeme → Closing → Lexeme → List Item
tag_items now s cast negated value closing l = spell_tag_type cast (Any (Of (equality negated)) ∷ This (Of kinds.StringLiteral) value
    ∷ left_closing now s (with_match (meaning s.builder) (named l) negated value) closing)

match_leads : (now : ℤ) (s : Progress) (l : Lexeme) (cast negated : Bool) (value : Lexeme) (closing : Closing) (t : Lexeme) (ts : List Lexeme) (reach : Reach)
    → SuitsAt states.Term (at states.Term s) (Match l cast negated value, closing)
    → ReadsTokens (left_at states.Term now (at states.Term s) (Match l cast negated value, closing)) (t ∷ ts) reach
    → Leads now (at states.Term s) (Match l cast negated value, closing) ts reach (where_steps s states.Term t t.kind)
match_leads now s l cast negated value closing t ts reach suits w =
    let stepped : where_steps s states.Term t t.kind ≡ name_steps s t false
    = ap (filtering s states.Term) (name_step t.kind t s.builder.filter w.1.0) ∙ ap (name_steps s t) w.1.1 in
    subst (Leads now (at states.Term s) (Match l cast negated value, closing) ts reach) (sym stepped) (
      (cast, (negated, (value, closing))),
      suits,
      subst (λ (x : Lexeme). ReadsTokens (tag_items now s cast negated value closing x) ts reach) (sym w.0) w.2,
      ap (λ (x : Lexeme). map Ok s.queries ++ said_closing now s (with_match (meaning s.builder) (named x) negated value) closing) (sym w.0),
    )

abbrev open_steps : Progress → Lexeme → Bool → Advance
open_steps s t b =
    filtering s states.Term (if b then Ok (states.Term, record s.builder.filter { depth = s.builder.filter.depth + 1 }) else Err (unsupported t))

open_leads : (now : ℤ) (s : Progress) (o : Lexeme) (c : Cond) (closing : Closing) (t : Lexeme) (ts : List Lexeme) (reach : Reach)
    → s.builder.filter.depth ≡ levels closing → t ≡ o
    → ReadsTokens (Examine (depth_fault (levels closing) o) ∷ group_items now s c closing (after_cond now (meaning s.builder) c)) ts reach
    → (b : Bool) → nat_lt s.builder.filter.depth 32 ≡ b → Leads now (at states.Term s) (Group o c, closing) ts reach (open_steps s t b)
open_leads now s o c closing t ts reach suits same w true lt = (
  (c, Inside [] closing),
  omega (arith, suits),
  passed (depth_fault (levels closing) o) (group_items now s c closing (after_cond now (meaning s.builder) c)) ts reach
      (no_depth_fault s.builder.filter.depth (levels closing) o suits lt) w,
  refl,
)
open_leads now s o c closing t ts reach suits same w false lt =
    failed (depth_fault (levels closing) o) (group_items now s c closing (after_cond now (meaning s.builder) c)) ts reach (unsupported t)
    (a_depth_fault s.builder.filter.depth (levels closing) o suits lt ∙ ap (λ (x : Lexeme). Some (unsupported x)) (sym same)) w

cond_leads : (now : ℤ) (s : Progress) (c : Cond) (closing : Closing) (t : Lexeme) (ts : List Lexeme) (reach : Reach)
    → SuitsAt states.Term (at states.Term s) (c, closing) → ReadsTokens (left_at states.Term now (at states.Term s) (c, closing)) (t ∷ ts) reach
    → Leads now (at states.Term s) (c, closing) ts reach (where_steps s states.Term t t.kind)
cond_leads now s (Compare l c i) closing t ts reach suits w = compare_leads now s l c i closing t ts reach suits w
cond_leads now s (Match l cast negated value) closing t ts reach suits w = match_leads now s l cast negated value closing t ts reach suits w
cond_leads now s (Group o c) closing t ts reach suits w =
    subst (λ (k : Kind). Leads now (at states.Term s) (Group o c, closing) ts reach (where_steps s states.Term t k)) (sym w.1)
    (open_leads now s o c closing t ts reach suits w.0 w.2 (nat_lt s.builder.filter.depth 32) refl)
cond_leads now s (And a b) (Outside cs tail) t ts reach suits w = cond_leads now s a (Outside (b ∷ cs) tail) t ts reach suits w
cond_leads now s (And a b) (Inside cs outer) t ts reach suits w = cond_leads now s a (Inside (b ∷ cs) outer) t ts reach suits w

pub term_leads : (now : ℤ) (s : Progress) (q : Rest states.Term) (t : Lexeme) (ts : List Lexeme) (reach : Reach) → SuitsAt states.Term (at states.Term s) q
    → ReadsTokens (left_at states.Term now (at states.Term s) q) (t ∷ ts) reach
    → Leads now (at states.Term s) q ts reach (filtering s states.Term (where_at states.Term t.kind t s.builder.filter))
term_leads now s q t ts reach suits w = cond_leads now s q.0 q.1 t ts reach suits w

-- ---- a condition on a tag

tag_end_leads_at : (now : ℤ) (s : Progress) (cast negated : Bool) (tail : Lexeme × Closing) (t : Lexeme) (ts : List Lexeme) (reach : Reach)
    → SuitsAt states.TagEnd (at states.TagEnd s) (cast, (negated, tail)) → ReadsTokens (left_at states.TagEnd now (at states.TagEnd s) (cast, (negated, tail))) (t ∷ ts) reach
    → Leads now (at states.TagEnd s) (cast, (negated, tail)) ts reach (where_steps s states.TagEnd t t.kind)
tag_end_leads_at now s true negated tail t ts reach suits w =
    subst (λ (k : Kind). Leads now (at states.TagEnd s) (true, (negated, tail)) ts reach (where_steps s states.TagEnd t k)) (sym w.0) ((negated, tail), suits, w.1, refl)
tag_end_leads_at now s false true tail t ts reach suits w =
    subst (λ (k : Kind). Leads now (at states.TagEnd s) (false, (true, tail)) ts reach (where_steps s states.TagEnd t k)) (sym w.0) (tail, suits, w.1, refl)
tag_end_leads_at now s false false tail t ts reach suits w =
    subst (λ (k : Kind). Leads now (at states.TagEnd s) (false, (false, tail)) ts reach (where_steps s states.TagEnd t k)) (sym w.0) (tail, suits, w.1, refl)

pub tag_end_leads : (now : ℤ) (s : Progress) (q : Rest states.TagEnd) (t : Lexeme) (ts : List Lexeme) (reach : Reach) → SuitsAt states.TagEnd (at states.TagEnd s) q
    → ReadsTokens (left_at states.TagEnd now (at states.TagEnd s) q) (t ∷ ts) reach
    → Leads now (at states.TagEnd s) q ts reach (filtering s states.TagEnd (where_at states.TagEnd t.kind t s.builder.filter))
tag_end_leads now s q t ts reach suits w = tag_end_leads_at now s q.0 q.1.0 q.1.1 t ts reach suits w

abbrev type_steps : Progress → Lexeme → Bool → Advance
type_steps s t b = filtering s states.TagType (if b then Ok (states.TagSign, s.builder.filter) else Err (unexpected t))

pub tag_type_leads : (now : ℤ) (s : Progress) (q : Rest states.TagType) (t : Lexeme) (ts : List Lexeme) (reach : Reach) → SuitsAt states.TagType (at states.TagType s) q
    → ReadsTokens (left_at states.TagType now (at states.TagType s) q) (t ∷ ts) reach
    → Leads now (at states.TagType s) q ts reach (filtering s states.TagType (where_at states.TagType t.kind t s.builder.filter))
tag_type_leads now s q t ts reach suits w =
    subst (λ (k : Kind). Leads now (at states.TagType s) q ts reach (where_steps s states.TagType t k)) (sym w.0.0)
    (subst (λ (b : Bool). Leads now (at states.TagType s) q ts reach (type_steps s t b)) (sym w.0.1) (q, suits, w.1, refl))

tag_sign_leads_at : (now : ℤ) (s : Progress) (negated : Bool) (tail : Lexeme × Closing) (t : Lexeme) (ts : List Lexeme) (reach : Reach)
    → SuitsAt states.TagSign (at states.TagSign s) (negated, tail) → ReadsTokens (left_at states.TagSign now (at states.TagSign s) (negated, tail)) (t ∷ ts) reach
    → Leads now (at states.TagSign s) (negated, tail) ts reach (where_steps s states.TagSign t t.kind)
tag_sign_leads_at now s true tail t ts reach suits w =
    subst (λ (k : Kind). Leads now (at states.TagSign s) (true, tail) ts reach (where_steps s states.TagSign t k)) (sym w.0) (tail, suits, w.1, refl)
tag_sign_leads_at now s false tail t ts reach suits w =
    subst (λ (k : Kind). Leads now (at states.TagSign s) (false, tail) ts reach (where_steps s states.TagSign t k)) (sym w.0) (tail, suits, w.1, refl)

pub tag_sign_leads : (now : ℤ) (s : Progress) (q : Rest states.TagSign) (t : Lexeme) (ts : List Lexeme) (reach : Reach) → SuitsAt states.TagSign (at states.TagSign s) q
    → ReadsTokens (left_at states.TagSign now (at states.TagSign s) q) (t ∷ ts) reach
    → Leads now (at states.TagSign s) q ts reach (filtering s states.TagSign (where_at states.TagSign t.kind t s.builder.filter))
tag_sign_leads now s q t ts reach suits w = tag_sign_leads_at now s q.0 q.1 t ts reach suits w

abbrev matched_parts : Progress → Lexeme → Meaning
matched_parts s l = with_match (meaning s.builder) s.builder.filter.tag s.builder.filter.negated l

pub tag_value_leads : (now : ℤ) (s : Progress) (q : Rest states.TagValue) (t : Lexeme) (ts : List Lexeme) (reach : Reach) → SuitsAt states.TagValue (at states.TagValue s) q
    → ReadsTokens (left_at states.TagValue now (at states.TagValue s) q) (t ∷ ts) reach
    → Leads now (at states.TagValue s) q ts reach (filtering s states.TagValue (where_at states.TagValue t.kind t s.builder.filter))
tag_value_leads now s q t ts reach suits w =
    subst (λ (k : Kind). Leads now (at states.TagValue s) q ts reach (where_steps s states.TagValue t k)) (sym w.1)
    (closing_leads now (at states.TagValue s) q ts reach (matched_builder s t) q.1 (s.builder.filter.depth == 0) suits
    (subst (λ (x : Lexeme). ReadsTokens (left_closing now s (matched_parts s x) q.1) ts reach) (sym w.0) w.2)
    (ap (λ (x : Lexeme). map Ok s.queries ++ said_closing now s (matched_parts s x) q.1) (sym w.0)))

-- ---- after a term

abbrev and_steps : Progress → State → Lexeme → Bool → Advance
and_steps s p t b = filtering s p (if b then Ok (states.Term, s.builder.filter) else Err (unexpected t))

pub after_term_leads : (now : ℤ) (s : Progress) (c : Cond) (cs : List Cond) (tail : GroupTail) (t : Lexeme) (ts : List Lexeme) (reach : Reach)
    → SuitsAt states.AfterTerm (at states.AfterTerm s) (Outside (c ∷ cs) tail)
    → ReadsTokens (left_at states.AfterTerm now (at states.AfterTerm s) (Outside (c ∷ cs) tail)) (t ∷ ts) reach
    → Leads now (at states.AfterTerm s) (Outside (c ∷ cs) tail) ts reach (filtering s states.AfterTerm (where_at states.AfterTerm t.kind t s.builder.filter))
after_term_leads now s c cs tail t ts reach suits w =
    subst (λ (k : Kind). Leads now (at states.AfterTerm s) (Outside (c ∷ cs) tail) ts reach (where_steps s states.AfterTerm t k)) (sym w.0.0)
    (subst (λ (b : Bool). Leads now (at states.AfterTerm s) (Outside (c ∷ cs) tail) ts reach (and_steps s states.AfterTerm t b)) (sym w.0.1)
    ((c, Outside cs tail), suits, w.1, refl))

pub nested_and_leads : (now : ℤ) (s : Progress) (c : Cond) (cs : List Cond) (closing : Closing) (t : Lexeme) (ts : List Lexeme) (reach : Reach)
    → SuitsAt states.NestedTerm (at states.NestedTerm s) (Inside (c ∷ cs) closing)
    → ReadsTokens (left_at states.NestedTerm now (at states.NestedTerm s) (Inside (c ∷ cs) closing)) (t ∷ ts) reach
    → Leads now (at states.NestedTerm s) (Inside (c ∷ cs) closing) ts reach (filtering s states.NestedTerm (where_at states.NestedTerm t.kind t s.builder.filter))
nested_and_leads now s c cs closing t ts reach suits w =
    subst (λ (k : Kind). Leads now (at states.NestedTerm s) (Inside (c ∷ cs) closing) ts reach (where_steps s states.NestedTerm t k)) (sym w.0.0)
    (subst (λ (b : Bool). Leads now (at states.NestedTerm s) (Inside (c ∷ cs) closing) ts reach (and_steps s states.NestedTerm t b)) (sym w.0.1)
    ((c, Inside cs closing), suits, w.1, refl))

abbrev close_steps : Progress → Lexeme → Bool → Advance
close_steps s t b = filtering s states.NestedTerm
    (if b then Ok (after_term (s.builder.filter.depth - 1), record s.builder.filter { depth = s.builder.filter.depth - 1 }) else Err (unexpected t))

pub nested_close_leads : (now : ℤ) (s : Progress) (closing : Closing) (t : Lexeme) (ts : List Lexeme) (reach : Reach)
    → SuitsAt states.NestedTerm (at states.NestedTerm s) (Inside [] closing)
    → ReadsTokens (left_at states.NestedTerm now (at states.NestedTerm s) (Inside [] closing)) (t ∷ ts) reach
    → Leads now (at states.NestedTerm s) (Inside [] closing) ts reach (filtering s states.NestedTerm (where_at states.NestedTerm t.kind t s.builder.filter))
nested_close_leads now s closing t ts reach suits w =
    let inside : nat_lt 0 s.builder.filter.depth ≡ true = lt-ltb 0 s.builder.filter.depth (omega (arith, suits)) in
    let less : s.builder.filter.depth - 1 ≡ levels closing = omega (arith, suits) in
    subst (λ (k : Kind). Leads now (at states.NestedTerm s) (Inside [] closing) ts reach (where_steps s states.NestedTerm t k)) (sym w.0)
    (subst (λ (b : Bool). Leads now (at states.NestedTerm s) (Inside [] closing) ts reach (close_steps s t b)) (sym inside)
    (closing_leads now (at states.NestedTerm s) (Inside [] closing) ts reach (closed_builder s) closing (s.builder.filter.depth - 1 == 0) less w.1 refl))
