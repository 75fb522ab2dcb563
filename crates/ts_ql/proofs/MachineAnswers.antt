-- The step of each token, in each state of the machine.
use Rattle.std.proofs.Common.{◌≡◌, ◌⊎◌, inl, inr, ℤ, List, [], ◌∷◌, Bool, true, false, Option, Some, None, Ok, Err, arith, refl}
use Rattle.std.proofs.lemmas.Bool.{eqb-true, eqb-false}
use Rattle.std.specs.Prelude.{◌==◌, if◌then◌else◌}
use Rattle.ts_ql.specs.declared.state.State.{State}
use Rattle.ts_ql.specs.declared.state.State.TheVariants as states
use Rattle.ts_ql.specs.declared.token.Kind.{Kind}
use Rattle.ts_ql.specs.declared.token.Kind.TheVariants as kinds
use Rattle.ts_ql.specs.QueryFaults.{Fault}
use Rattle.ts_ql.specs.GroupSteps.{group_step, fill_step}
use Rattle.ts_ql.specs.Laws.{Reach, At, ReadsTokens}
use Rattle.ts_ql.specs.MomentSteps.{moment_step, narrowed}
use Rattle.ts_ql.specs.Builders.{BuilderState, meaning}
use Rattle.ts_ql.specs.Ranges.{bounded}
use Rattle.ts_ql.specs.Reading.{Progress, Advance, finish_time_at, finish_time_step, narrowed_in, builder_step, next_clause, begun, placed_at, after_finishing_time, step}
use Rattle.ts_ql.specs.SelectSteps.{select_step}
use Rattle.ts_ql.specs.Productions.{time_fault}
use Rattle.ts_ql.specs.Tokens.{Lexeme}
use Rattle.ts_ql.specs.WhereSteps.{where_step}
use Rattle.ts_ql.proofs.Rests.{Closing, left_closing, left_at, Sound, SoundAt}
use Rattle.ts_ql.proofs.Steps.{at, Answer, passes, fails}
use Rattle.ts_ql.proofs.ClauseRuns.{measurement_answers, term_answers, tag_answers, item_answers, filled_answers}
use Rattle.ts_ql.proofs.Completions.{closing_of, closing_levels}
use Rattle.ts_ql.proofs.EndRuns.{begun_answers}
use Rattle.ts_ql.proofs.FillRuns.{fill_answers}
use Rattle.ts_ql.proofs.GroupRuns.{group_answers}
use Rattle.ts_ql.proofs.MomentRuns.{moment_answers, settles_back, unsettled_back}
use Rattle.ts_ql.proofs.SelectRuns.{select_answers}
use Rattle.ts_ql.proofs.WhereRuns.{where_answers}

-- ---- a token after a moment's end

pub placed_answers : (p : State) (now : ℤ) (s : Progress) (t : Lexeme) → SoundAt p (at p s) → Answer now (at p s) t (placed_at p now t (at p s))
unfolding begun builder_step next_clause select_step where_step moment_step group_step fill_step
placed_answers states.Statement now s t sound = begun_answers now s t sound
placed_answers states.Function now s t sound = select_answers now s states.Function t.kind t refl sound
placed_answers states.FunctionOpen now s t sound = select_answers now s states.FunctionOpen t.kind t refl sound
placed_answers states.Field now s t sound = select_answers now s states.Field t.kind t refl sound
placed_answers states.FieldEnd now s t sound = select_answers now s states.FieldEnd t.kind t refl sound
placed_answers states.FieldType now s t sound = select_answers now s states.FieldType t.kind t refl sound
placed_answers states.FieldClose now s t sound = select_answers now s states.FieldClose t.kind t refl sound
placed_answers states.AfterColumn now s t sound = select_answers now s states.AfterColumn t.kind t refl sound
placed_answers states.Alias now s t sound = select_answers now s states.Alias t.kind t refl sound
placed_answers states.AfterAlias now s t sound = select_answers now s states.AfterAlias t.kind t refl sound
placed_answers states.Measurement now s t sound = select_answers now s states.Measurement t.kind t refl sound
placed_answers states.AfterMeasurement now s t sound = measurement_answers now s t.kind t refl sound
placed_answers states.Term now s t sound = where_answers now s states.Term t.kind t refl sound
placed_answers states.TagEnd now s t sound = where_answers now s states.TagEnd t.kind t refl sound
placed_answers states.TagType now s t sound = where_answers now s states.TagType t.kind t refl sound
placed_answers states.TagSign now s t sound = where_answers now s states.TagSign t.kind t refl sound
placed_answers states.TagValue now s t sound = where_answers now s states.TagValue t.kind t refl sound
placed_answers states.NestedTerm now s t sound = where_answers now s states.NestedTerm t.kind t refl sound
placed_answers states.AfterTerm now s t sound = term_answers now s t.kind t refl sound
placed_answers states.TimeSign now s t sound = moment_answers now s states.TimeSign t.kind t refl
placed_answers states.Moment now s t sound = moment_answers now s states.Moment t.kind t refl
placed_answers states.MomentMinus now s t sound = moment_answers now s states.MomentMinus t.kind t refl
placed_answers states.NowOpen now s t sound = moment_answers now s states.NowOpen t.kind t refl
placed_answers states.NowClose now s t sound = moment_answers now s states.NowClose t.kind t refl
placed_answers states.AfterMoment now s t sound = moment_answers now s states.AfterMoment t.kind t refl
placed_answers states.MomentPlus now s t sound = moment_answers now s states.MomentPlus t.kind t refl
placed_answers states.MomentLess now s t sound = moment_answers now s states.MomentLess t.kind t refl
placed_answers states.GroupBy now s t sound = group_answers now s states.GroupBy t.kind t refl
placed_answers states.Item now s t sound = group_answers now s states.Item t.kind t refl
placed_answers states.TimeOpen now s t sound = group_answers now s states.TimeOpen t.kind t refl
placed_answers states.Interval now s t sound = group_answers now s states.Interval t.kind t refl
placed_answers states.IntervalEnd now s t sound = group_answers now s states.IntervalEnd t.kind t refl
placed_answers states.Offset now s t sound = group_answers now s states.Offset t.kind t refl
placed_answers states.OffsetMinus now s t sound = group_answers now s states.OffsetMinus t.kind t refl
placed_answers states.OffsetEnd now s t sound = group_answers now s states.OffsetEnd t.kind t refl
placed_answers states.GroupTagType now s t sound = group_answers now s states.GroupTagType t.kind t refl
placed_answers states.AfterTag now s t sound = tag_answers now s t.kind t refl
placed_answers states.AfterItem now s t sound = item_answers now s t.kind t refl
placed_answers states.FillOpen now s t sound = fill_answers now s states.FillOpen t.kind t refl
placed_answers states.FillOption now s t sound = fill_answers now s states.FillOption t.kind t refl
placed_answers states.FillMinus now s t sound = fill_answers now s states.FillMinus t.kind t refl
placed_answers states.FillClose now s t sound = fill_answers now s states.FillClose t.kind t refl
placed_answers states.AfterFill now s t sound = filled_answers now s t.kind t refl
placed_answers states.Done now s t sound = inr refl

-- ---- the end of a moment

-- the range with the moment that has been read
abbrev pub bounding : Progress → BuilderState
bounding s = record s.builder { range = bounded s.builder.moment.comparison s.builder.moment.total s.builder.range }

abbrev pub moment_fault : Progress → Option Fault
moment_fault s = time_fault s.builder.moment.first s.builder.moment.total

abbrev pub settled_state : Progress → Progress
settled_state s = record s { builder = bounding s }

-- after a term, inside of parentheses or outside
abbrev pub behind_term : Bool → State
behind_term b = if b then states.AfterTerm else states.NestedTerm

-- a rest after the moment is one before its end
unsettled_closing : (now : ℤ) (s : Progress) (q : Closing) (ts : List Lexeme) (reach : Reach) → moment_fault s ≡ None
    → ReadsTokens (left_closing now (settled_state s) (meaning (bounding s)) q) ts reach → ReadsTokens (left_at states.AfterMoment now (at states.AfterMoment s) ([], q)) ts reach
unsettled_closing now s q ts reach valid w = passes (moment_fault s) (left_closing now s (meaning (bounding s)) q) ts reach valid w

unsettled_fault : (now : ℤ) (s : Progress) (t : Lexeme) (q : Closing) (f : Fault) → moment_fault s ≡ None
    → ReadsTokens (left_closing now (settled_state s) (meaning (bounding s)) q) [] (At f) ⊎ ReadsTokens (left_closing now (settled_state s) (meaning (bounding s)) q) (t ∷ []) (At f)
    → ReadsTokens (left_at states.AfterMoment now (at states.AfterMoment s) ([], q)) [] (At f) ⊎ ReadsTokens (left_at states.AfterMoment now (at states.AfterMoment s) ([], q)) (t ∷ []) (At f)
unsettled_fault now s t q f valid (inl w) = inl (unsettled_closing now s q [] (At f) valid w)
unsettled_fault now s t q f valid (inr w) = inr (unsettled_closing now s q (t ∷ []) (At f) valid w)

unsettle : (now : ℤ) (s : Progress) (t : Lexeme) (b : Bool) → moment_fault s ≡ None → (r : Advance)
    → Answer now (at (behind_term b) (settled_state s)) t r → Answer now (at states.AfterMoment s) t r
unsettle now s t true valid (Ok n) a =
    (a.0, λ r suits. let b = a.1 r suits in (([], b.0), b.1, (λ ts reach w. unsettled_closing now s b.0 (t ∷ ts) reach valid (b.2 ts reach w)), b.3))
unsettle now s t false valid (Ok n) a =
    (a.0, λ r suits. let b = a.1 r suits in (([], b.0), b.1, (λ ts reach w. unsettled_closing now s b.0 (t ∷ ts) reach valid (b.2 ts reach w)), b.3))
unsettle now s t b valid (Err f) (inr same) = inr same
unsettle now s t true valid (Err f) (inl w) = inl (([], w.0), w.1, unsettled_fault now s t w.0 f valid w.2)
unsettle now s t false valid (Err f) (inl w) = inl (([], w.0), w.1, unsettled_fault now s t w.0 f valid w.2)

behind_answers : (now : ℤ) (s : Progress) (t : Lexeme) → moment_fault s ≡ None → (b : Bool) → (s.builder.filter.depth == 0) ≡ b
    → Answer now (at states.AfterMoment s) t (placed_at (behind_term b) now t (at (behind_term b) (settled_state s)))
behind_answers now s t valid true e =
    unsettle now s t true valid (placed_at states.AfterTerm now t (at states.AfterTerm (settled_state s))) (placed_answers states.AfterTerm now (settled_state s) t (eqb-true s.builder.filter.depth 0 e))
behind_answers now s t valid false e =
    let other : s.builder.filter.depth ≡ 0 → ⊥ = eqb-false s.builder.filter.depth 0 e in
    unsettle now s t false valid (placed_at states.NestedTerm now t (at states.NestedTerm (settled_state s))) (placed_answers states.NestedTerm now (settled_state s) t (omega (arith, other)))

finish_time_answers : (now : ℤ) (s : Progress) (t : Lexeme) (o : Option Fault) → moment_fault s ≡ o
    → Answer now (at states.AfterMoment s) t (after_finishing_time now t (at states.AfterMoment s) (narrowed_in s.builder (narrowed s.builder.moment s.builder.range)))
finish_time_answers now s t None valid = rw (settles_back s valid) (behind_answers now s t valid (s.builder.filter.depth == 0) refl)
finish_time_answers now s t (Some f) invalid = rw ((unsettled_back s f invalid).0)
    (inl (([], closing_of s.builder.filter.depth), closing_levels s.builder.filter.depth, inl (fails (moment_fault s) _ f invalid)))

moment_end_answers : (now : ℤ) (s : Progress) (k : Kind) (t : Lexeme) → t.kind ≡ k
    → Answer now (at states.AfterMoment s) t (after_finishing_time now t (at states.AfterMoment s) (finish_time_at states.AfterMoment k s.builder))
moment_end_answers now s kinds.Plus t e = placed_answers states.AfterMoment now s t tt
moment_end_answers now s kinds.Minus t e = placed_answers states.AfterMoment now s t tt
moment_end_answers now s k t e = finish_time_answers now s t (moment_fault s) refl

-- ---- each state

answers_at : (p : State) (now : ℤ) (s : Progress) (t : Lexeme) → SoundAt p (at p s)
    → Answer now (at p s) t (after_finishing_time now t (at p s) (finish_time_at p t.kind s.builder))
answers_at states.AfterMoment now s t sound = moment_end_answers now s t.kind t refl
answers_at p now s t sound = placed_answers p now s t sound

pub answers : (now : ℤ) (s : Progress) (t : Lexeme) → Sound s → Answer now s t (step now t s)
unfolding step finish_time_step
answers now s t sound = answers_at s.state now s t sound
