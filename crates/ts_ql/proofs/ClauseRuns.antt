-- States in which a clause or a statement may end: the step of each token, and the tokens of each rest.
use Rattle.std.proofs.Common.{◌≡◌, inr, ℤ, List, [], ◌∷◌, ◌++◌, Bool, true, false, ◌&&◌, Some, None, Ok, map, arith, refl, sym, ap, ◌∙◌, subst}
use Rattle.std.specs.Prelude.{codes, if◌then◌else◌}
use Rattle.ts_ql.specs.declared.state.State.{State}
use Rattle.ts_ql.specs.declared.state.State.TheVariants as states
use Rattle.ts_ql.specs.declared.token.Kind.{Kind}
use Rattle.ts_ql.specs.declared.token.Kind.TheVariants as kinds
use Rattle.ts_ql.specs.Grammar.{Item, Cond}
use Rattle.ts_ql.specs.Laws.{Reach, ReadsTokens}
use Rattle.ts_ql.specs.Literals.{is_word}
use Rattle.ts_ql.specs.GroupSteps.{group_step}
use Rattle.ts_ql.specs.Meanings.{after_cond}
use Rattle.ts_ql.specs.WhereSteps.{where_step}
use Rattle.ts_ql.specs.Reading.{Progress, Advance, is_end, may_end, builder_step, clause_at, clause_or, ended}
use Rattle.ts_ql.specs.Productions.{spell_cond}
use Rattle.ts_ql.specs.Statements.{Meaning}
use Rattle.ts_ql.specs.Builders.{meaning}
use Rattle.ts_ql.specs.Tokens.{Lexeme}
use Rattle.ts_ql.proofs.Rests.{FilterTail, Closing, Outside, Inside, levels, spell_conds, left_group, said_group, left_at, all_said, SuitsAt}
use Rattle.ts_ql.proofs.Steps.{at, Back, Answer}
use Rattle.ts_ql.proofs.EndRuns.{EndsAt, semicolon_answers, end_answers}
use Rattle.ts_ql.proofs.WhereRuns.{joined, spell_joined, after_joined, where_answers}
use Rattle.ts_ql.proofs.GroupRuns.{group_answers}

-- ---- where a statement may end

abbrev pub measurement_ends : (now : ℤ) (s : Progress) → EndsAt now s states.AfterMeasurement
measurement_ends now s = record { rest = λ e. (None, (None, (None, e))); suits = λ e. tt; left_same = λ e. refl; said_same = λ e. refl }

abbrev pub term_ends : (now : ℤ) (s : Progress) → s.builder.filter.depth ≡ 0 → EndsAt now s states.AfterTerm
term_ends now s sound = record { rest = λ e. Outside [] (None, (None, e)); suits = λ e. sound; left_same = λ e. refl; said_same = λ e. refl }

abbrev pub tag_ends : (now : ℤ) (s : Progress) → EndsAt now s states.AfterTag
tag_ends now s = record { rest = λ e. (false, ([], (None, e))); suits = λ e. tt; left_same = λ e. refl; said_same = λ e. refl }

abbrev pub item_ends : (now : ℤ) (s : Progress) → EndsAt now s states.AfterItem
item_ends now s = record { rest = λ e. ([], (None, e)); suits = λ e. tt; left_same = λ e. refl; said_same = λ e. refl }

abbrev pub fill_ends : (now : ℤ) (s : Progress) → EndsAt now s states.AfterFill
fill_ends now s = record { rest = λ e. e; suits = λ e. tt; left_same = λ e. refl; said_same = λ e. refl }

-- ---- the step in such a state, by the kind of the token

abbrev pub continued_by : ℤ → Progress → State → Lexeme → Kind → Advance
continued_by now s p t k = if may_end p && is_end k then ended now k (at p s) else clause_or now t (at p s) (clause_at p k t.text)

-- ---- after the measurement

where_back_at : (now : ℤ) (s : Progress) (t : Lexeme) → t.kind ≡ kinds.Keyword → is_word (codes "where") t.text ≡ true
    → (c : Cond) (closing : Closing) → levels closing ≡ 0
    → (q : FilterTail) × SuitsAt states.AfterMeasurement (at states.AfterMeasurement s) q
    × ((ts : List Lexeme) (reach : Reach) → ReadsTokens (left_at states.Term now (at states.Term s) (c, closing)) ts reach → ReadsTokens (left_at states.AfterMeasurement now (at states.AfterMeasurement s) q) (t ∷ ts) reach)
    × (all_said now (at states.AfterMeasurement s) q ≡ all_said now (at states.Term s) (c, closing))
where_back_at now s t e is c (Outside cs tail) same = (
  (Some (joined c cs), tail),
  tt,
  (λ ts reach v. (
    (e, is),
    subst (λ (items : List Item). ReadsTokens items ts reach) (sym (spell_joined now 0 c cs (left_group now s (after_cond now (meaning s.builder) (joined c cs)) tail)
        ∙ ap (λ (p : Meaning). spell_cond now 0 c (spell_conds now 0 cs (left_group now s p tail))) (after_joined now (meaning s.builder) c cs))) v,
  )),
  ap (λ (p : Meaning). map Ok s.queries ++ said_group now s p tail) (after_joined now (meaning s.builder) c cs),
)
where_back_at now s t e is c (Inside cs closing) same = absurd (omega (arith, same))

where_back : (now : ℤ) (s : Progress) (t : Lexeme) → t.kind ≡ kinds.Keyword → is_word (codes "where") t.text ≡ true → s.builder.filter.depth ≡ 0
    → Back now (at states.AfterMeasurement s) (at states.Term s) t
where_back now s t e is sound r suits = where_back_at now s t e is r.0 r.1 (sym suits ∙ sound)

group_or : (now : ℤ) (s : Progress) (t : Lexeme) → t.kind ≡ kinds.Keyword → (b : Bool) → is_word (codes "group") t.text ≡ b
    → Answer now (at states.AfterMeasurement s) t (clause_or now t (at states.AfterMeasurement s) (if b then Some states.GroupBy else None))
unfolding builder_step where_step group_step
group_or now s t e true is =
    (tt, λ r suits. ((None, (Some (record { first = r.0; more = r.1.0 }), r.1.1)), tt, (λ ts reach v. ((e, is), v)), refl))
group_or now s t e false is = inr refl

where_or : (now : ℤ) (s : Progress) (t : Lexeme) → t.kind ≡ kinds.Keyword → s.builder.filter.depth ≡ 0 → (b : Bool) → is_word (codes "where") t.text ≡ b
    → Answer now (at states.AfterMeasurement s) t (clause_or now t (at states.AfterMeasurement s)
    (if b then Some states.Term else if is_word (codes "group") t.text then Some states.GroupBy else None))
where_or now s t e sound true is = (tt, where_back now s t e is sound)
where_or now s t e sound false is = group_or now s t e (is_word (codes "group") t.text) refl

measurement_fill : (now : ℤ) (s : Progress) (t : Lexeme) → t.kind ≡ kinds.Word → (b : Bool) → is_word (codes "fill") t.text ≡ b
    → Answer now (at states.AfterMeasurement s) t (clause_or now t (at states.AfterMeasurement s) (if b then Some states.FillOpen else None))
unfolding builder_step where_step group_step
measurement_fill now s t e true is = (tt, λ r suits. ((None, (None, (Some r.0, r.1))), tt, (λ ts reach v. ((e, is), v)), refl))
measurement_fill now s t e false is = inr refl

pub measurement_answers : (now : ℤ) (s : Progress) (k : Kind) (t : Lexeme) → t.kind ≡ k → s.builder.filter.depth ≡ 0
    → Answer now (at states.AfterMeasurement s) t (continued_by now s states.AfterMeasurement t k)
unfolding builder_step where_step group_step
measurement_answers now s kinds.Semicolon t e sound = semicolon_answers now s states.AfterMeasurement t e (measurement_ends now s)
measurement_answers now s kinds.End t e sound = end_answers now s states.AfterMeasurement t e (measurement_ends now s)
measurement_answers now s kinds.Keyword t e sound = where_or now s t e sound (is_word (codes "where") t.text) refl
measurement_answers now s kinds.Word t e sound = measurement_fill now s t e (is_word (codes "fill") t.text) refl
measurement_answers now s k t e sound = inr refl

-- ---- after a term

term_group : (now : ℤ) (s : Progress) (t : Lexeme) → t.kind ≡ kinds.Keyword → s.builder.filter.depth ≡ 0 → (b : Bool) → is_word (codes "group") t.text ≡ b
    → Answer now (at states.AfterTerm s) t (clause_or now t (at states.AfterTerm s) (if b then Some states.GroupBy else None))
unfolding builder_step where_step group_step
term_group now s t e sound true is =
    (tt, λ r suits. (Outside [] (Some (record { first = r.0; more = r.1.0 }), r.1.1), sound, (λ ts reach v. ((e, is), v)), refl))
term_group now s t e sound false is = where_answers now s states.AfterTerm t.kind t refl sound

term_fill : (now : ℤ) (s : Progress) (t : Lexeme) → t.kind ≡ kinds.Word → s.builder.filter.depth ≡ 0 → (b : Bool) → is_word (codes "fill") t.text ≡ b
    → Answer now (at states.AfterTerm s) t (clause_or now t (at states.AfterTerm s) (if b then Some states.FillOpen else None))
unfolding builder_step where_step group_step
term_fill now s t e sound true is = (tt, λ r suits. (Outside [] (None, (Some r.0, r.1)), sound, (λ ts reach v. ((e, is), v)), refl))
term_fill now s t e sound false is = where_answers now s states.AfterTerm t.kind t refl sound

pub term_answers : (now : ℤ) (s : Progress) (k : Kind) (t : Lexeme) → t.kind ≡ k → s.builder.filter.depth ≡ 0
    → Answer now (at states.AfterTerm s) t (continued_by now s states.AfterTerm t k)
unfolding builder_step where_step group_step
term_answers now s kinds.Semicolon t e sound = semicolon_answers now s states.AfterTerm t e (term_ends now s sound)
term_answers now s kinds.End t e sound = end_answers now s states.AfterTerm t e (term_ends now s sound)
term_answers now s kinds.Keyword t e sound = term_group now s t e sound (is_word (codes "group") t.text) refl
term_answers now s kinds.Word t e sound = term_fill now s t e sound (is_word (codes "fill") t.text) refl
term_answers now s k t e sound = where_answers now s states.AfterTerm t.kind t refl sound

-- ---- after an item

tag_fill : (now : ℤ) (s : Progress) (t : Lexeme) → t.kind ≡ kinds.Word → (b : Bool) → is_word (codes "fill") t.text ≡ b
    → Answer now (at states.AfterTag s) t (clause_or now t (at states.AfterTag s) (if b then Some states.FillOpen else None))
unfolding builder_step where_step group_step
tag_fill now s t e true is = (tt, λ r suits. ((false, ([], (Some r.0, r.1))), tt, (λ ts reach v. ((e, is), v)), refl))
tag_fill now s t e false is = group_answers now s states.AfterTag t.kind t refl

pub tag_answers : (now : ℤ) (s : Progress) (k : Kind) (t : Lexeme) → t.kind ≡ k → Answer now (at states.AfterTag s) t (continued_by now s states.AfterTag t k)
unfolding builder_step where_step group_step
tag_answers now s kinds.Semicolon t e = semicolon_answers now s states.AfterTag t e (tag_ends now s)
tag_answers now s kinds.End t e = end_answers now s states.AfterTag t e (tag_ends now s)
tag_answers now s kinds.Word t e = tag_fill now s t e (is_word (codes "fill") t.text) refl
tag_answers now s k t e = group_answers now s states.AfterTag t.kind t refl

item_fill : (now : ℤ) (s : Progress) (t : Lexeme) → t.kind ≡ kinds.Word → (b : Bool) → is_word (codes "fill") t.text ≡ b
    → Answer now (at states.AfterItem s) t (clause_or now t (at states.AfterItem s) (if b then Some states.FillOpen else None))
unfolding builder_step where_step group_step
item_fill now s t e true is = (tt, λ r suits. (([], (Some r.0, r.1)), tt, (λ ts reach v. ((e, is), v)), refl))
item_fill now s t e false is = group_answers now s states.AfterItem t.kind t refl

pub item_answers : (now : ℤ) (s : Progress) (k : Kind) (t : Lexeme) → t.kind ≡ k → Answer now (at states.AfterItem s) t (continued_by now s states.AfterItem t k)
unfolding builder_step where_step group_step
item_answers now s kinds.Semicolon t e = semicolon_answers now s states.AfterItem t e (item_ends now s)
item_answers now s kinds.End t e = end_answers now s states.AfterItem t e (item_ends now s)
item_answers now s kinds.Word t e = item_fill now s t e (is_word (codes "fill") t.text) refl
item_answers now s k t e = group_answers now s states.AfterItem t.kind t refl

-- ---- after FILL

pub filled_answers : (now : ℤ) (s : Progress) (k : Kind) (t : Lexeme) → t.kind ≡ k → Answer now (at states.AfterFill s) t (continued_by now s states.AfterFill t k)
unfolding builder_step where_step group_step
filled_answers now s kinds.Semicolon t e = semicolon_answers now s states.AfterFill t e (fill_ends now s)
filled_answers now s kinds.End t e = end_answers now s states.AfterFill t e (fill_ends now s)
filled_answers now s k t e = inr refl
