-- The next token of a rest, in each state of the machine: it leads to the remaining rest.
use Rattle.std.proofs.Common.{◌≡◌, ℕ, ℤ, ◌<◌, List, [], ◌∷◌, Bool, true, false, Option, Some, None, Ok, Err, arith, refl, sym, ap, ◌∙◌, subst}
use Rattle.std.proofs.lemmas.Bool.{eqb-true, eqb-false}
use Rattle.std.specs.Prelude.{⊤, ◌==◌}
use Rattle.ts_ql.specs.declared.state.State.{State}
use Rattle.ts_ql.specs.declared.state.State.TheVariants as states
use Rattle.ts_ql.specs.declared.token.Kind.{Kind}
use Rattle.ts_ql.specs.QueryFaults.{Fault}
use Rattle.ts_ql.specs.Grammar.{Change, GroupBy, FillOption, Ending, Stop, RightParen, Next}
use Rattle.ts_ql.specs.GroupSteps.{group_step, fill_step}
use Rattle.ts_ql.specs.Laws.{Reach, ReadsTokens}
use Rattle.ts_ql.specs.MomentSteps.{moment_step, narrowed}
use Rattle.ts_ql.specs.Reading.{Progress, Advance, BuilderResult, finish_time_at, finish_time_step, narrowed_in, builder_step, next_clause, begun, placed_at, after_finishing_time, step}
use Rattle.ts_ql.specs.SelectSteps.{select_step}
use Rattle.ts_ql.specs.Productions.{sign_of}
use Rattle.ts_ql.specs.Statements.{Meaning}
use Rattle.ts_ql.specs.Builders.{meaning}
use Rattle.ts_ql.specs.Tokens.{Lexeme}
use Rattle.ts_ql.specs.WhereSteps.{where_step}
use Rattle.ts_ql.proofs.Rests.{Closing, Outside, Inside, levels, left_ending, left_group, left_closing, left, all_said, left_at, Rest, Sound, SoundAt, Suits, SuitsAt}
use Rattle.ts_ql.proofs.Steps.{at, Leads, passed, failed}
use Rattle.ts_ql.proofs.ClauseLeads.{measurement_leads, term_leads_on, tag_leads as after_tag_leads, item_leads_on, filled_leads}
use Rattle.ts_ql.proofs.EndRuns.{begun_leads}
use Rattle.ts_ql.proofs.FillRuns.{open_leads, option_leads, minus_leads, close_leads}
use Rattle.ts_ql.proofs.GroupRuns.{group_by_leads, item_leads, time_open_leads, interval_leads, interval_end_leads, offset_leads, offset_minus_leads, offset_end_leads, group_tag_type_leads}
use Rattle.ts_ql.proofs.MachineAnswers.{bounding, moment_fault, settled_state, behind_term}
use Rattle.ts_ql.proofs.MomentRuns.{time_sign_leads, moment_leads, moment_minus_leads, now_open_leads, now_close_leads, moment_plus_leads, moment_less_leads, change_leads, settles_back}
use Rattle.ts_ql.proofs.SelectRuns.{Function_leads, FunctionOpen_leads, Field_leads, FieldEnd_leads, FieldType_leads, FieldClose_leads, AfterColumn_leads, Alias_leads, AfterAlias_leads, Measurement_leads}
use Rattle.ts_ql.proofs.WhereRuns.{term_leads, tag_end_leads, tag_type_leads, tag_sign_leads, tag_value_leads, nested_and_leads, nested_close_leads}

-- a statement has begun, between the first token and the last
abbrev pub CountedAt : State → ℕ → Type 0
CountedAt states.Statement count = ⊤
CountedAt states.Done count = ⊤
CountedAt p count = 0 < count

-- inside of parentheses
nested_leads : (now : ℤ) (s : Progress) (q : Closing) (t : Lexeme) (ts : List Lexeme) (reach : Reach) → 0 < s.builder.filter.depth → s.builder.filter.depth ≡ levels q
    → ReadsTokens (left_at states.NestedTerm now (at states.NestedTerm s) q) (t ∷ ts) reach → Leads now (at states.NestedTerm s) q ts reach (placed_at states.NestedTerm now t (at states.NestedTerm s))
unfolding builder_step next_clause where_step
nested_leads now s (Outside cs tail) t ts reach sound suits v = absurd (omega (arith, sound, suits))
nested_leads now s (Inside (c ∷ cs) closing) t ts reach sound suits v = nested_and_leads now s c cs closing t ts reach suits v
nested_leads now s (Inside [] closing) t ts reach sound suits v = nested_close_leads now s closing t ts reach suits v

-- ---- a token after a moment's end

abbrev IsMomentAt : State → Bool
IsMomentAt states.AfterMoment = true
IsMomentAt p = false

placed_leads : (p : State) (now : ℤ) (s : Progress) (q : Rest p) (t : Lexeme) (ts : List Lexeme) (reach : Reach) → IsMomentAt p ≡ false → SoundAt p (at p s) → SuitsAt p (at p s) q → CountedAt p s.count
    → ReadsTokens (left_at p now (at p s) q) (t ∷ ts) reach → Leads now (at p s) q ts reach (placed_at p now t (at p s))
unfolding begun builder_step next_clause select_step where_step moment_step group_step fill_step
placed_leads states.Statement now s q t ts reach early sound suits some v = begun_leads now s q t ts reach sound suits v
placed_leads states.Function now s q t ts reach early sound suits some v = Function_leads now s q t ts reach v
placed_leads states.FunctionOpen now s q t ts reach early sound suits some v = FunctionOpen_leads now s q t ts reach v
placed_leads states.Field now s q t ts reach early sound suits some v = Field_leads now s q t ts reach v
placed_leads states.FieldEnd now s q t ts reach early sound suits some v = FieldEnd_leads now s q t ts reach v
placed_leads states.FieldType now s q t ts reach early sound suits some v = FieldType_leads now s q t ts reach v
placed_leads states.FieldClose now s q t ts reach early sound suits some v = FieldClose_leads now s q t ts reach v
placed_leads states.AfterColumn now s q t ts reach early sound suits some v = AfterColumn_leads now s q t ts reach v
placed_leads states.Alias now s q t ts reach early sound suits some v = Alias_leads now s q t ts reach v
placed_leads states.AfterAlias now s q t ts reach early sound suits some v = AfterAlias_leads now s q t ts reach v
placed_leads states.Measurement now s q t ts reach early sound suits some v = Measurement_leads now s q t ts reach v
placed_leads states.AfterMeasurement now s q t ts reach early sound suits some v = measurement_leads now s q t ts reach sound some v
placed_leads states.Term now s q t ts reach early sound suits some v = term_leads now s q t ts reach suits v
placed_leads states.TagEnd now s q t ts reach early sound suits some v = tag_end_leads now s q t ts reach suits v
placed_leads states.TagType now s q t ts reach early sound suits some v = tag_type_leads now s q t ts reach suits v
placed_leads states.TagSign now s q t ts reach early sound suits some v = tag_sign_leads now s q t ts reach suits v
placed_leads states.TagValue now s q t ts reach early sound suits some v = tag_value_leads now s q t ts reach suits v
placed_leads states.AfterTerm now s q t ts reach early sound suits some v = term_leads_on now s q t ts reach sound suits some v
placed_leads states.NestedTerm now s q t ts reach early sound suits some v = nested_leads now s q t ts reach sound suits v
placed_leads states.TimeSign now s q t ts reach early sound suits some v = time_sign_leads now s q t ts reach suits v
placed_leads states.Moment now s q t ts reach early sound suits some v = moment_leads now s q t ts reach suits v
placed_leads states.MomentMinus now s q t ts reach early sound suits some v = moment_minus_leads now s q t ts reach suits v
placed_leads states.NowOpen now s q t ts reach early sound suits some v = now_open_leads now s q t ts reach suits v
placed_leads states.NowClose now s q t ts reach early sound suits some v = now_close_leads now s q t ts reach suits v
placed_leads states.MomentPlus now s q t ts reach early sound suits some v = moment_plus_leads now s q t ts reach suits v
placed_leads states.MomentLess now s q t ts reach early sound suits some v = moment_less_leads now s q t ts reach suits v
placed_leads states.AfterMoment now s q t ts reach early sound suits some v = absurd cc
placed_leads states.GroupBy now s q t ts reach early sound suits some v = group_by_leads now s q t ts reach v
placed_leads states.Item now s q t ts reach early sound suits some v = item_leads now s q t ts reach v
placed_leads states.TimeOpen now s q t ts reach early sound suits some v = time_open_leads now s q t ts reach v
placed_leads states.Interval now s q t ts reach early sound suits some v = interval_leads now s q t ts reach v
placed_leads states.IntervalEnd now s q t ts reach early sound suits some v = interval_end_leads now s q t ts reach v
placed_leads states.Offset now s q t ts reach early sound suits some v = offset_leads now s q t ts reach v
placed_leads states.OffsetMinus now s q t ts reach early sound suits some v = offset_minus_leads now s q t ts reach v
placed_leads states.OffsetEnd now s q t ts reach early sound suits some v = offset_end_leads now s q t ts reach v
placed_leads states.GroupTagType now s q t ts reach early sound suits some v = group_tag_type_leads now s q t ts reach v
placed_leads states.AfterTag now s q t ts reach early sound suits some v = after_tag_leads now s q t ts reach some v
placed_leads states.AfterItem now s q t ts reach early sound suits some v = item_leads_on now s q t ts reach some v
placed_leads states.FillOpen now s q t ts reach early sound suits some v = open_leads now s q t ts reach v
placed_leads states.FillOption now s q t ts reach early sound suits some v = option_leads now s q t ts reach v
placed_leads states.FillMinus now s q t ts reach early sound suits some v = minus_leads now s q t ts reach v
placed_leads states.FillClose now s q t ts reach early sound suits some v = close_leads now s q t ts reach v
placed_leads states.AfterFill now s q t ts reach early sound suits some v = filled_leads now s q t ts reach some v
placed_leads states.Done now s q t ts reach early sound suits some v = absurd v

-- ---- the end of a moment

-- a moment ends before a token that is neither plus nor minus
EndsMoment : Progress → Kind → Type 0
EndsMoment s k = finish_time_at states.AfterMoment k s.builder ≡ narrowed_in s.builder (narrowed s.builder.moment s.builder.range)

ending_ends : (now : ℤ) (s : Progress) (p : Meaning) (e : Ending) (t : Lexeme) (ts : List Lexeme) (reach : Reach) → ReadsTokens (left_ending now s p e) (t ∷ ts) reach → EndsMoment s t.kind
unfolding EndsMoment
ending_ends now s p Stop t ts reach v = subst (EndsMoment s) (sym v.0) refl
ending_ends now s p RightParen t ts reach v = subst (EndsMoment s) (sym v.0) refl
ending_ends now s p (Next st e) t ts reach v = subst (EndsMoment s) (sym v.0) refl

group_ends : (now : ℤ) (s : Progress) (p : Meaning) (g : Option GroupBy) (o : Option FillOption) (e : Ending) (t : Lexeme) (ts : List Lexeme) (reach : Reach)
    → ReadsTokens (left_group now s p (g, (o, e))) (t ∷ ts) reach → EndsMoment s t.kind
unfolding EndsMoment
group_ends now s p (Some g) o e t ts reach v = subst (EndsMoment s) (sym v.0.0) refl
group_ends now s p None (Some o) e t ts reach v = subst (EndsMoment s) (sym v.0.0) refl
group_ends now s p None None e t ts reach v = ending_ends now s p e t ts reach v

closing_ends : (now : ℤ) (s : Progress) (p : Meaning) (q : Closing) (t : Lexeme) (ts : List Lexeme) (reach : Reach) → ReadsTokens (left_closing now s p q) (t ∷ ts) reach → EndsMoment s t.kind
unfolding EndsMoment
closing_ends now s p (Outside (c ∷ cs) tail) t ts reach v = subst (EndsMoment s) (sym v.0.0) refl
closing_ends now s p (Outside [] tail) t ts reach v = group_ends now s p tail.0 tail.1.0 tail.1.1 t ts reach v
closing_ends now s p (Inside (c ∷ cs) closing) t ts reach v = subst (EndsMoment s) (sym v.0.0) refl
closing_ends now s p (Inside [] closing) t ts reach v = subst (EndsMoment s) (sym v.0) refl

-- each token that follows the moment's end follows the moment
unsettle_leads : (now : ℤ) (s : Progress) (q : Closing) (ts : List Lexeme) (reach : Reach) (b : Bool) (r : Advance) (w : (c : Closing) → Rest (behind_term b))
    → Leads now (at (behind_term b) (settled_state s)) (w q) ts reach r → all_said now (at (behind_term b) (settled_state s)) (w q) ≡ all_said now (at states.AfterMoment s) ([], q)
    → Leads now (at states.AfterMoment s) ([], q) ts reach r
unsettle_leads now s q ts reach b (Ok n) w leads same = (leads.0, leads.1, leads.2, sym same ∙ leads.3)
unsettle_leads now s q ts reach b (Err f) w leads same = leads

behind_leads : (now : ℤ) (s : Progress) (q : Closing) (t : Lexeme) (ts : List Lexeme) (reach : Reach) → s.builder.filter.depth ≡ levels q → 0 < s.count
    → ReadsTokens (left_closing now (settled_state s) (meaning (bounding s)) q) (t ∷ ts) reach → (b : Bool) → (s.builder.filter.depth == 0) ≡ b
    → Leads now (at states.AfterMoment s) ([], q) ts reach (placed_at (behind_term b) now t (at (behind_term b) (settled_state s)))
behind_leads now s q t ts reach suits some v true e =
    unsettle_leads now s q ts reach true (placed_at states.AfterTerm now t (at states.AfterTerm (settled_state s))) (λ c. c)
    (placed_leads states.AfterTerm now (settled_state s) q t ts reach refl (eqb-true s.builder.filter.depth 0 e) suits some v) refl
behind_leads now s q t ts reach suits some v false e =
    let other : s.builder.filter.depth ≡ 0 → ⊥ = eqb-false s.builder.filter.depth 0 e in
    unsettle_leads now s q ts reach false (placed_at states.NestedTerm now t (at states.NestedTerm (settled_state s))) (λ c. c)
    (placed_leads states.NestedTerm now (settled_state s) q t ts reach refl (omega (arith, other)) suits some v) refl

abbrev moment_steps_on : ℤ → Progress → Lexeme → BuilderResult → Advance
moment_steps_on now s t r = after_finishing_time now t (at states.AfterMoment s) r

moment_end_leads : (now : ℤ) (s : Progress) (q : Closing) (t : Lexeme) (ts : List Lexeme) (reach : Reach) (o : Option Fault) → moment_fault s ≡ o → s.builder.filter.depth ≡ levels q → 0 < s.count
    → ReadsTokens (left_at states.AfterMoment now (at states.AfterMoment s) ([], q)) (t ∷ ts) reach
    → Leads now (at states.AfterMoment s) ([], q) ts reach (moment_steps_on now s t (finish_time_at states.AfterMoment t.kind s.builder))
unfolding EndsMoment
moment_end_leads now s q t ts reach (Some f) invalid suits some v =
    let none : t ∷ ts ≡ [] = (failed (moment_fault s) _ (t ∷ ts) reach f invalid v).0 in absurd cc
moment_end_leads now s q t ts reach None valid suits some v =
    let rest : ReadsTokens (left_closing now (settled_state s) (meaning (bounding s)) q) (t ∷ ts) reach = passed (moment_fault s) _ (t ∷ ts) reach valid v in
    let ends : EndsMoment s t.kind = closing_ends now s (meaning (bounding s)) q t ts reach rest in
    subst (λ (r : BuilderResult). Leads now (at states.AfterMoment s) ([], q) ts reach (moment_steps_on now s t r)) (sym (ends ∙ ap (narrowed_in s.builder) (settles_back s valid)))
    (behind_leads now s q t ts reach suits some rest (s.builder.filter.depth == 0) refl)

-- a moment goes on with plus and minus
goes_on : (s : Progress) (t : Lexeme) (b : Bool) → t.kind ≡ sign_of b → finish_time_at states.AfterMoment t.kind s.builder ≡ Ok (states.AfterMoment, s.builder)
goes_on s t true e = subst (λ (k : Kind). finish_time_at states.AfterMoment k s.builder ≡ Ok (states.AfterMoment, s.builder)) (sym e) refl
goes_on s t false e = subst (λ (k : Kind). finish_time_at states.AfterMoment k s.builder ≡ Ok (states.AfterMoment, s.builder)) (sym e) refl

moment_leads_on : (now : ℤ) (s : Progress) (cs : List Change) (q : Closing) (t : Lexeme) (ts : List Lexeme) (reach : Reach) → s.builder.filter.depth ≡ levels q → 0 < s.count
    → ReadsTokens (left_at states.AfterMoment now (at states.AfterMoment s) (cs, q)) (t ∷ ts) reach
    → Leads now (at states.AfterMoment s) (cs, q) ts reach (moment_steps_on now s t (finish_time_at states.AfterMoment t.kind s.builder))
unfolding builder_step next_clause moment_step
moment_leads_on now s [] q t ts reach suits some v = moment_end_leads now s q t ts reach (moment_fault s) refl suits some v
moment_leads_on now s (c ∷ cs) q t ts reach suits some v =
    subst (λ (r : BuilderResult). Leads now (at states.AfterMoment s) (c ∷ cs, q) ts reach (moment_steps_on now s t r)) (sym (goes_on s t c.less v.0))
    (change_leads now s c cs q t ts reach suits v)

-- ---- each state

leads_at : (p : State) (now : ℤ) (s : Progress) (q : Rest p) (t : Lexeme) (ts : List Lexeme) (reach : Reach) → SoundAt p (at p s) → SuitsAt p (at p s) q → CountedAt p s.count
    → ReadsTokens (left_at p now (at p s) q) (t ∷ ts) reach → Leads now (at p s) q ts reach (after_finishing_time now t (at p s) (finish_time_at p t.kind s.builder))
leads_at states.AfterMoment now s q t ts reach sound suits some v = moment_leads_on now s q.0 q.1 t ts reach suits some v
leads_at p now s q t ts reach sound suits some v = placed_leads p now s q t ts reach refl sound suits some v

pub leads : (now : ℤ) (s : Progress) (q : Rest s.state) (t : Lexeme) (ts : List Lexeme) (reach : Reach) → Sound s → Suits s q → CountedAt s.state s.count
    → ReadsTokens (left now s q) (t ∷ ts) reach → Leads now s q ts reach (step now t s)
unfolding step finish_time_step
leads now s q t ts reach sound suits some v = leads_at s.state now s q t ts reach sound suits some v
