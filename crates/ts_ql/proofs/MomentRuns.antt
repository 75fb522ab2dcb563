-- Comparisons with time: the step of each token, the tokens of each rest, and the end of a moment.
use Rattle.std.proofs.Common.{◌≡◌, inl, inr, ℕ, ℤ, pos, List, [], ◌∷◌, ◌++◌, Bool, true, false, Option, Some, None, Result, Ok, Err, map, refl, sym, ap, subst}
use Rattle.std.specs.Prelude.{codes, int_le, ◌&&◌, if◌then◌else◌}
use Rattle.std.specs.Option.{unwrap_or}
use Rattle.ts_core.specs.facts.Times.{least_time, greatest_time}
use Rattle.ts_ql.specs.declared.moment.Comparison.{Comparison}
use Rattle.ts_ql.specs.declared.moment.Comparison.TheVariants as comparisons
use Rattle.ts_ql.specs.declared.moment.Moment.{Moment}
use Rattle.ts_ql.specs.declared.moment.Range.{Range}
use Rattle.ts_ql.specs.declared.state.State.{State}
use Rattle.ts_ql.specs.declared.state.State.TheVariants as states
use Rattle.ts_ql.specs.declared.token.Kind.{Kind}
use Rattle.ts_ql.specs.declared.token.Kind.TheVariants as kinds
use Rattle.ts_ql.specs.Dates.{timestamp_of}
use Rattle.ts_ql.specs.QueryFaults.{Fault, unexpected, OutOfRange}
use Rattle.ts_ql.specs.Grammar.{Item, Examine, Measure, Count, Duration, Base, Number, Negative, Quoted, Now, Change, Instant}
use Rattle.ts_ql.specs.Laws.{Reach, At, ReadsTokens}
use Rattle.ts_ql.specs.Literals.{is_word, literal}
use Rattle.ts_ql.specs.Meanings.{changed_by, total_after}
use Rattle.ts_ql.specs.MomentSteps.{Timing, moment_at, based, later_by, earlier_by, moment_time, bounded_by, narrowed}
use Rattle.ts_ql.specs.Ranges.{bounded}
use Rattle.ts_ql.specs.Reading.{Progress, Advance, with_builder, in_moment}
use Rattle.ts_ql.specs.Productions.{literal_fault, change_fault, time_fault, kind_of_measure, kind_of_comparison}
use Rattle.ts_ql.specs.Tokens.{Lexeme}
use Rattle.ts_ql.proofs.Completions.{closing_of, closing_levels}
use Rattle.ts_ql.proofs.Rests.{Rest, Closing, levels, left_at, left_changes, left_change, left_instant, said_changes, said_change, SuitsAt}
use Rattle.ts_ql.proofs.Steps.{at, Answer, Leads, passes, fails, passed, failed, carried}

abbrev pub timing : Progress → State → Timing → Advance
timing s p step = with_builder (at p s) (in_moment s.builder step)

-- the step by the kind of the token
abbrev pub moment_steps : ℤ → Progress → State → Lexeme → Kind → Advance
moment_steps now s p t k = timing s p (moment_at now p k t s.builder.moment)

-- ---- parentheses

-- n parentheses are closed, and the text ends
pub closings : (n : ℕ) → (closing : Closing) × (n ≡ levels closing)
closings n = (closing_of n, closing_levels n)

-- ---- values and sums

-- the change of a moment by a duration
abbrev pub by_value : Bool → Lexeme → Change
by_value less t = record { less = less; by = t }

sum_of : (s : Progress) (less : Bool) (t : Lexeme) (n : ℤ) → literal false t.text ≡ Some n
    → changed_by less s.builder.moment.total n ≡ total_after s.builder.moment.total (by_value less t)
sum_of s less t n v = ap (λ (o : Option ℤ). changed_by less s.builder.moment.total (unwrap_or o (pos 0))) (sym v)

valued : (less : Bool) (t : Lexeme) (n : ℤ) → literal false t.text ≡ Some n → change_fault (by_value less t) ≡ None
valued less t n v = ap (literal_fault t.start) v

unvalued : (less : Bool) (t : Lexeme) → literal false t.text ≡ None → change_fault (by_value less t) ≡ Some (OutOfRange t.start)
unvalued less t v = ap (literal_fault t.start) v

-- ---- from the machine

number : (now : ℤ) (s : Progress) (t : Lexeme) (m : Measure) → t.kind ≡ kind_of_measure m → (o : Option ℤ) → literal false t.text ≡ o
    → Answer now (at states.Moment s) t (timing s states.Moment (based t.start s.builder.moment o))
number now s t m e (Some n) v =
    let value : n ≡ unwrap_or (literal false t.text) (pos 0) = sym (ap (λ (o : Option ℤ). unwrap_or o (pos 0)) v) in (
      tt,
      λ r suits. (
        (record { base = Number m t; changes = r.0 }, r.1),
        suits,
        (λ ts reach w. (
          refl,
          e,
          passes (literal_fault t.start (literal false t.text)) (left_changes now s t.start (unwrap_or (literal false t.text) (pos 0)) r) ts reach (ap (literal_fault t.start) v)
              (carried (λ (x : ℤ). left_changes now s t.start x r) ts reach n (unwrap_or (literal false t.text) (pos 0)) value w),
        )),
        ap (λ (x : ℤ). map Ok s.queries ++ said_changes now s x r) (sym value),
      ),
    )
number now s t m e None v =
    let c = closings s.builder.filter.depth in
    inl (
      (record { base = Number m t; changes = [] }, c.0),
      c.1,
      inr (refl, e, fails (literal_fault t.start (literal false t.text)) (left_changes now s t.start (unwrap_or (literal false t.text) (pos 0)) ([], c.0)) (OutOfRange t.start) (ap (literal_fault t.start) v)),
    )

quoted : (now : ℤ) (s : Progress) (t : Lexeme) → t.kind ≡ kinds.StringLiteral → (o : Option ℤ) → timestamp_of t.text ≡ o
    → Answer now (at states.Moment s) t (timing s states.Moment (based t.start s.builder.moment o))
quoted now s t e (Some n) v =
    let value : n ≡ unwrap_or (timestamp_of t.text) (pos 0) = sym (ap (λ (o : Option ℤ). unwrap_or o (pos 0)) v) in (
      tt,
      λ r suits. (
        (record { base = Quoted t; changes = r.0 }, r.1),
        suits,
        (λ ts reach w. (
          refl,
          e,
          passes (literal_fault t.start (timestamp_of t.text)) (left_changes now s t.start (unwrap_or (timestamp_of t.text) (pos 0)) r) ts reach (ap (literal_fault t.start) v)
              (carried (λ (x : ℤ). left_changes now s t.start x r) ts reach n (unwrap_or (timestamp_of t.text) (pos 0)) value w),
        )),
        ap (λ (x : ℤ). map Ok s.queries ++ said_changes now s x r) (sym value),
      ),
    )
quoted now s t e None v =
    let c = closings s.builder.filter.depth in
    inl (
      (record { base = Quoted t; changes = [] }, c.0),
      c.1,
      inr (refl, e, fails (literal_fault t.start (timestamp_of t.text)) (left_changes now s t.start (unwrap_or (timestamp_of t.text) (pos 0)) ([], c.0)) (OutOfRange t.start) (ap (literal_fault t.start) v)),
    )

negative : (now : ℤ) (s : Progress) (t : Lexeme) (m : Measure) → t.kind ≡ kind_of_measure m → (o : Option ℤ) → literal true t.text ≡ o
    → Answer now (at states.MomentMinus s) t (timing s states.MomentMinus (based s.builder.moment.first s.builder.moment o))
negative now s t m e (Some n) v =
    let value : n ≡ unwrap_or (literal true t.text) (pos 0) = sym (ap (λ (o : Option ℤ). unwrap_or o (pos 0)) v) in (
      tt,
      λ r suits. (
        (m, (t, r)),
        suits,
        (λ ts reach w. (
          refl,
          e,
          passes (literal_fault s.builder.moment.first (literal true t.text)) (left_changes now s s.builder.moment.first (unwrap_or (literal true t.text) (pos 0)) r) ts reach (ap (literal_fault s.builder.moment.first) v)
              (carried (λ (x : ℤ). left_changes now s s.builder.moment.first x r) ts reach n (unwrap_or (literal true t.text) (pos 0)) value w),
        )),
        ap (λ (x : ℤ). map Ok s.queries ++ said_changes now s x r) (sym value),
      ),
    )
negative now s t m e None v =
    let c = closings s.builder.filter.depth in
    inl (
      (m, (t, ([], c.0))),
      c.1,
      inr (refl, e, fails (literal_fault s.builder.moment.first (literal true t.text)) (left_changes now s s.builder.moment.first (unwrap_or (literal true t.text) (pos 0)) ([], c.0)) (OutOfRange s.builder.moment.first) (ap (literal_fault s.builder.moment.first) v)),
    )

now_or : (now : ℤ) (s : Progress) (t : Lexeme) → t.kind ≡ kinds.Word → (b : Bool) → is_word (codes "now") t.text ≡ b
    → Answer now (at states.Moment s) t (timing s states.Moment (if b then Ok (states.NowOpen, record (s.builder.moment) { first = t.start }) else Err (unexpected t)))
now_or now s t e true is = (tt, λ r suits. ((record { base = Now t; changes = r.0 }, r.1), suits, (λ ts reach w. (refl, (e, is), w)), refl))
now_or now s t e false is = inr refl

-- a change, read and said
summed_reads : (now : ℤ) (s : Progress) (less : Bool) (t : Lexeme) (n : ℤ) (r : List Change × Closing) → literal false t.text ≡ Some n
    → t.kind ≡ kinds.Duration → (ts : List Lexeme) (reach : Reach)
    → ReadsTokens (left_changes now s s.builder.moment.first (changed_by less s.builder.moment.total n) r) ts reach
    → ReadsTokens (left_change now s less (t, r)) (t ∷ ts) reach
summed_reads now s less t n r v e ts reach w = (
  refl,
  e,
  passes (change_fault (by_value less t)) (left_changes now s s.builder.moment.first (total_after s.builder.moment.total (by_value less t)) r) ts reach
      (valued less t n v)
      (carried (λ (x : ℤ). left_changes now s s.builder.moment.first x r) ts reach (changed_by less s.builder.moment.total n) (total_after s.builder.moment.total (by_value less t)) (sum_of s less t n v) w),
)

summed_says : (now : ℤ) (s : Progress) (less : Bool) (t : Lexeme) (n : ℤ) (r : List Change × Closing) → literal false t.text ≡ Some n
    → map Ok s.queries ++ said_change now s less (t, r) ≡ map Ok s.queries ++ said_changes now s (changed_by less s.builder.moment.total n) r
summed_says now s less t n r v = ap (λ (x : ℤ). map Ok s.queries ++ said_changes now s x r) (sym (sum_of s less t n v))

change_fails : (now : ℤ) (s : Progress) (less : Bool) (t : Lexeme) (r : List Change × Closing) (f : Fault) → t.kind ≡ kinds.Duration
    → change_fault (by_value less t) ≡ Some f → ReadsTokens (left_change now s less (t, r)) (t ∷ []) (At f)
change_fails now s less t r f e is =
    (refl, e, fails (change_fault (by_value less t)) (left_changes now s s.builder.moment.first (total_after s.builder.moment.total (by_value less t)) r) f is)

plus : (now : ℤ) (s : Progress) (t : Lexeme) → t.kind ≡ kinds.Duration → (o : Option ℤ) → literal false t.text ≡ o
    → Answer now (at states.MomentPlus s) t (timing s states.MomentPlus (later_by t s.builder.moment o))
plus now s t e (Some n) v = (tt, λ r suits. ((t, r), suits, summed_reads now s false t n r v e, summed_says now s false t n r v))
plus now s t e None v =
    let c = closings s.builder.filter.depth in
    inl ((t, ([], c.0)), c.1, inr (change_fails now s false t ([], c.0) (OutOfRange t.start) e (unvalued false t v)))

minus : (now : ℤ) (s : Progress) (t : Lexeme) → t.kind ≡ kinds.Duration → (o : Option ℤ) → literal false t.text ≡ o
    → Answer now (at states.MomentLess s) t (timing s states.MomentLess (earlier_by t s.builder.moment o))
minus now s t e (Some n) v = (tt, λ r suits. ((t, r), suits, summed_reads now s true t n r v e, summed_says now s true t n r v))
minus now s t e None v =
    let c = closings s.builder.filter.depth in
    inl ((t, ([], c.0)), c.1, inr (change_fails now s true t ([], c.0) (OutOfRange t.start) e (unvalued true t v)))

pub moment_answers : (now : ℤ) (s : Progress) (p : State) (k : Kind) (t : Lexeme) → t.kind ≡ k
    → Answer now (at p s) t (timing s p (moment_at now p k t s.builder.moment))
moment_answers now s states.TimeSign kinds.Equals t e = (tt, λ r suits. ((comparisons.Equal, r), suits, (λ ts reach w. (e, w)), refl))
moment_answers now s states.TimeSign kinds.Less t e = (tt, λ r suits. ((comparisons.Less, r), suits, (λ ts reach w. (e, w)), refl))
moment_answers now s states.TimeSign kinds.LessOrEqual t e = (tt, λ r suits. ((comparisons.LessOrEqual, r), suits, (λ ts reach w. (e, w)), refl))
moment_answers now s states.TimeSign kinds.Greater t e = (tt, λ r suits. ((comparisons.Greater, r), suits, (λ ts reach w. (e, w)), refl))
moment_answers now s states.TimeSign kinds.GreaterOrEqual t e = (tt, λ r suits. ((comparisons.GreaterOrEqual, r), suits, (λ ts reach w. (e, w)), refl))
moment_answers now s states.Moment kinds.Minus t e =
    (tt, λ r suits. ((record { base = Negative t r.0 r.1.0; changes = r.1.1.0 }, r.1.1.1), suits, (λ ts reach w. (refl, e, w)), refl))
moment_answers now s states.Moment kinds.Integer t e = number now s t Count e (literal false t.text) refl
moment_answers now s states.Moment kinds.Duration t e = number now s t Duration e (literal false t.text) refl
moment_answers now s states.Moment kinds.StringLiteral t e = quoted now s t e (timestamp_of t.text) refl
moment_answers now s states.Moment kinds.Word t e = now_or now s t e (is_word (codes "now") t.text) refl
moment_answers now s states.MomentMinus kinds.Integer t e = negative now s t Count e (literal true t.text) refl
moment_answers now s states.MomentMinus kinds.Duration t e = negative now s t Duration e (literal true t.text) refl
moment_answers now s states.NowOpen kinds.LeftParen t e = (tt, λ r suits. (r, suits, (λ ts reach w. (e, w)), refl))
moment_answers now s states.NowClose kinds.RightParen t e = (tt, λ r suits. (r, suits, (λ ts reach w. (e, w)), refl))
moment_answers now s states.AfterMoment kinds.Plus t e =
    (tt, λ r suits. ((by_value false r.0 ∷ r.1.0, r.1.1), suits, (λ ts reach w. (e, w)), refl))
moment_answers now s states.AfterMoment kinds.Minus t e =
    (tt, λ r suits. ((by_value true r.0 ∷ r.1.0, r.1.1), suits, (λ ts reach w. (e, w)), refl))
moment_answers now s states.MomentPlus kinds.Duration t e = plus now s t e (literal false t.text) refl
moment_answers now s states.MomentLess kinds.Duration t e = minus now s t e (literal false t.text) refl
moment_answers now s p k t e = inr refl

-- ---- from trees

time_sign_leads_at : (now : ℤ) (s : Progress) (c : Comparison) (r : Instant × Closing) (t : Lexeme) (ts : List Lexeme) (reach : Reach)
    → s.builder.filter.depth ≡ levels r.1 → t.kind ≡ kind_of_comparison c → ReadsTokens (left_instant now s c r) ts reach
    → Leads now (at states.TimeSign s) (c, r) ts reach (moment_steps now s states.TimeSign t (kind_of_comparison c))
time_sign_leads_at now s comparisons.Equal r t ts reach suits e w = (r, suits, w, refl)
time_sign_leads_at now s comparisons.Less r t ts reach suits e w = (r, suits, w, refl)
time_sign_leads_at now s comparisons.LessOrEqual r t ts reach suits e w = (r, suits, w, refl)
time_sign_leads_at now s comparisons.Greater r t ts reach suits e w = (r, suits, w, refl)
time_sign_leads_at now s comparisons.GreaterOrEqual r t ts reach suits e w = (r, suits, w, refl)

pub time_sign_leads : (now : ℤ) (s : Progress) (q : Rest states.TimeSign) (t : Lexeme) (ts : List Lexeme) (reach : Reach)
    → SuitsAt states.TimeSign (at states.TimeSign s) q → ReadsTokens (left_at states.TimeSign now (at states.TimeSign s) q) (t ∷ ts) reach
    → Leads now (at states.TimeSign s) q ts reach (timing s states.TimeSign (moment_at now states.TimeSign t.kind t s.builder.moment))
time_sign_leads now s q t ts reach suits w =
    subst (λ (k : Kind). Leads now (at states.TimeSign s) q ts reach (moment_steps now s states.TimeSign t k)) (sym w.0)
    (time_sign_leads_at now s q.0 q.1 t ts reach suits w.0 w.1)

-- a number in its range leads on; another is at fault
number_leads : (now : ℤ) (s : Progress) (t : Lexeme) (m : Measure) (r : List Change × Closing) (ts : List Lexeme) (reach : Reach) → s.builder.filter.depth ≡ levels r.1
    → (o : Option ℤ) → literal false t.text ≡ o
    → ReadsTokens (Examine (literal_fault t.start (literal false t.text)) ∷ left_changes now s t.start (unwrap_or (literal false t.text) (pos 0)) r) ts reach
    → Leads now (at states.Moment s) (record { base = Number m t; changes = r.0 }, r.1) ts reach (timing s states.Moment (based t.start s.builder.moment o))
number_leads now s t m r ts reach suits (Some n) v w =
    let value : unwrap_or (literal false t.text) (pos 0) ≡ n = ap (λ (o : Option ℤ). unwrap_or o (pos 0)) v in (
      r,
      suits,
      carried (λ (x : ℤ). left_changes now s t.start x r) ts reach (unwrap_or (literal false t.text) (pos 0)) n value
          (passed (literal_fault t.start (literal false t.text)) (left_changes now s t.start (unwrap_or (literal false t.text) (pos 0)) r) ts reach (ap (literal_fault t.start) v) w),
      ap (λ (x : ℤ). map Ok s.queries ++ said_changes now s x r) value,
    )
number_leads now s t m r ts reach suits None v w =
    failed (literal_fault t.start (literal false t.text)) (left_changes now s t.start (unwrap_or (literal false t.text) (pos 0)) r) ts reach (OutOfRange t.start) (ap (literal_fault t.start) v) w

quoted_leads : (now : ℤ) (s : Progress) (t : Lexeme) (r : List Change × Closing) (ts : List Lexeme) (reach : Reach) → s.builder.filter.depth ≡ levels r.1
    → (o : Option ℤ) → timestamp_of t.text ≡ o
    → ReadsTokens (Examine (literal_fault t.start (timestamp_of t.text)) ∷ left_changes now s t.start (unwrap_or (timestamp_of t.text) (pos 0)) r) ts reach
    → Leads now (at states.Moment s) (record { base = Quoted t; changes = r.0 }, r.1) ts reach (timing s states.Moment (based t.start s.builder.moment o))
quoted_leads now s t r ts reach suits (Some n) v w =
    let value : unwrap_or (timestamp_of t.text) (pos 0) ≡ n = ap (λ (o : Option ℤ). unwrap_or o (pos 0)) v in (
      r,
      suits,
      carried (λ (x : ℤ). left_changes now s t.start x r) ts reach (unwrap_or (timestamp_of t.text) (pos 0)) n value
          (passed (literal_fault t.start (timestamp_of t.text)) (left_changes now s t.start (unwrap_or (timestamp_of t.text) (pos 0)) r) ts reach (ap (literal_fault t.start) v) w),
      ap (λ (x : ℤ). map Ok s.queries ++ said_changes now s x r) value,
    )
quoted_leads now s t r ts reach suits None v w =
    failed (literal_fault t.start (timestamp_of t.text)) (left_changes now s t.start (unwrap_or (timestamp_of t.text) (pos 0)) r) ts reach (OutOfRange t.start) (ap (literal_fault t.start) v) w

negative_leads : (now : ℤ) (s : Progress) (t : Lexeme) (m : Measure) (r : List Change × Closing) (ts : List Lexeme) (reach : Reach) → s.builder.filter.depth ≡ levels r.1
    → (o : Option ℤ) → literal true t.text ≡ o
    → ReadsTokens (Examine (literal_fault s.builder.moment.first (literal true t.text)) ∷ left_changes now s s.builder.moment.first (unwrap_or (literal true t.text) (pos 0)) r) ts reach
    → Leads now (at states.MomentMinus s) (m, (t, r)) ts reach (timing s states.MomentMinus (based s.builder.moment.first s.builder.moment o))
negative_leads now s t m r ts reach suits (Some n) v w =
    let value : unwrap_or (literal true t.text) (pos 0) ≡ n = ap (λ (o : Option ℤ). unwrap_or o (pos 0)) v in (
      r,
      suits,
      carried (λ (x : ℤ). left_changes now s s.builder.moment.first x r) ts reach (unwrap_or (literal true t.text) (pos 0)) n value
          (passed (literal_fault s.builder.moment.first (literal true t.text)) (left_changes now s s.builder.moment.first (unwrap_or (literal true t.text) (pos 0)) r) ts reach (ap (literal_fault s.builder.moment.first) v) w),
      ap (λ (x : ℤ). map Ok s.queries ++ said_changes now s x r) value,
    )
negative_leads now s t m r ts reach suits None v w =
    failed (literal_fault s.builder.moment.first (literal true t.text)) (left_changes now s s.builder.moment.first (unwrap_or (literal true t.text) (pos 0)) r) ts reach (OutOfRange s.builder.moment.first) (ap (literal_fault s.builder.moment.first) v) w

-- the step at `Moment` with the first token of such a rest
abbrev pub MomentLeads : ℤ → Progress → Base → List Change × Closing → Lexeme → List Lexeme → Reach → Kind → Type 0
MomentLeads now s base r t ts reach k = Leads now (at states.Moment s) (record { base = base; changes = r.0 }, r.1) ts reach (moment_steps now s states.Moment t k)

measured_leads : (now : ℤ) (s : Progress) (t : Lexeme) (m : Measure) (r : List Change × Closing) (ts : List Lexeme) (reach : Reach) → s.builder.filter.depth ≡ levels r.1
    → ReadsTokens (Examine (literal_fault t.start (literal false t.text)) ∷ left_changes now s t.start (unwrap_or (literal false t.text) (pos 0)) r) ts reach
    → MomentLeads now s (Number m t) r t ts reach (kind_of_measure m)
measured_leads now s t Count r ts reach suits w = number_leads now s t Count r ts reach suits (literal false t.text) refl w
measured_leads now s t Duration r ts reach suits w = number_leads now s t Duration r ts reach suits (literal false t.text) refl w

-- the token is the one that the tree has
moment_leads_at : (now : ℤ) (s : Progress) (base : Base) (r : List Change × Closing) (t : Lexeme) (ts : List Lexeme) (reach : Reach)
    → s.builder.filter.depth ≡ levels r.1 → ReadsTokens (left_at states.Moment now (at states.Moment s) (record { base = base; changes = r.0 }, r.1)) (t ∷ ts) reach
    → MomentLeads now s base r t ts reach t.kind
moment_leads_at now s (Number m l) r t ts reach suits w =
    subst (λ (x : Lexeme). ReadsTokens (left_at states.Moment now (at states.Moment s) (record { base = Number m x; changes = r.0 }, r.1)) (t ∷ ts) reach
    → MomentLeads now s (Number m x) r t ts reach t.kind) w.0
    (λ u. subst (MomentLeads now s (Number m t) r t ts reach) (sym u.1) (measured_leads now s t m r ts reach suits u.2)) w
moment_leads_at now s (Negative l m number) r t ts reach suits w =
    subst (λ (x : Lexeme). ReadsTokens (left_at states.Moment now (at states.Moment s) (record { base = Negative x m number; changes = r.0 }, r.1)) (t ∷ ts) reach
    → MomentLeads now s (Negative x m number) r t ts reach t.kind) w.0
    (λ u. subst (MomentLeads now s (Negative t m number) r t ts reach) (sym u.1) ((m, (number, r)), suits, u.2, refl)) w
moment_leads_at now s (Quoted l) r t ts reach suits w =
    subst (λ (x : Lexeme). ReadsTokens (left_at states.Moment now (at states.Moment s) (record { base = Quoted x; changes = r.0 }, r.1)) (t ∷ ts) reach
    → MomentLeads now s (Quoted x) r t ts reach t.kind) w.0
    (λ u. subst (MomentLeads now s (Quoted t) r t ts reach) (sym u.1) (quoted_leads now s t r ts reach suits (timestamp_of t.text) refl u.2)) w
moment_leads_at now s (Now l) r t ts reach suits w =
    subst (λ (x : Lexeme). ReadsTokens (left_at states.Moment now (at states.Moment s) (record { base = Now x; changes = r.0 }, r.1)) (t ∷ ts) reach
    → MomentLeads now s (Now x) r t ts reach t.kind) w.0
    (λ u. subst (MomentLeads now s (Now t) r t ts reach) (sym u.1.0)
    (subst (λ (b : Bool). Leads now (at states.Moment s) (record { base = Now t; changes = r.0 }, r.1) ts reach
    (timing s states.Moment (if b then Ok (states.NowOpen, record (s.builder.moment) { first = t.start }) else Err (unexpected t)))) (sym u.1.1)
    (r, suits, u.2, refl))) w

pub moment_leads : (now : ℤ) (s : Progress) (q : Rest states.Moment) (t : Lexeme) (ts : List Lexeme) (reach : Reach)
    → SuitsAt states.Moment (at states.Moment s) q → ReadsTokens (left_at states.Moment now (at states.Moment s) q) (t ∷ ts) reach
    → Leads now (at states.Moment s) q ts reach (timing s states.Moment (moment_at now states.Moment t.kind t s.builder.moment))
moment_leads now s q t ts reach suits w = moment_leads_at now s q.0.base (q.0.changes, q.1) t ts reach suits w

moment_minus_leads_at : (now : ℤ) (s : Progress) (m : Measure) (r : List Change × Closing) (t : Lexeme) (ts : List Lexeme) (reach : Reach) → s.builder.filter.depth ≡ levels r.1
    → ReadsTokens (Examine (literal_fault s.builder.moment.first (literal true t.text)) ∷ left_changes now s s.builder.moment.first (unwrap_or (literal true t.text) (pos 0)) r) ts reach
    → Leads now (at states.MomentMinus s) (m, (t, r)) ts reach (moment_steps now s states.MomentMinus t (kind_of_measure m))
moment_minus_leads_at now s Count r t ts reach suits w = negative_leads now s t Count r ts reach suits (literal true t.text) refl w
moment_minus_leads_at now s Duration r t ts reach suits w = negative_leads now s t Duration r ts reach suits (literal true t.text) refl w

pub moment_minus_leads : (now : ℤ) (s : Progress) (q : Rest states.MomentMinus) (t : Lexeme) (ts : List Lexeme) (reach : Reach)
    → SuitsAt states.MomentMinus (at states.MomentMinus s) q → ReadsTokens (left_at states.MomentMinus now (at states.MomentMinus s) q) (t ∷ ts) reach
    → Leads now (at states.MomentMinus s) q ts reach (timing s states.MomentMinus (moment_at now states.MomentMinus t.kind t s.builder.moment))
moment_minus_leads now s q t ts reach suits w =
    subst (λ (x : Lexeme). ReadsTokens (left_at states.MomentMinus now (at states.MomentMinus s) (q.0, (x, q.1.1))) (t ∷ ts) reach
    → Leads now (at states.MomentMinus s) (q.0, (x, q.1.1)) ts reach (moment_steps now s states.MomentMinus t t.kind)) w.0
    (λ u. subst (λ (k : Kind). Leads now (at states.MomentMinus s) (q.0, (t, q.1.1)) ts reach (moment_steps now s states.MomentMinus t k)) (sym u.1)
    (moment_minus_leads_at now s q.0 q.1.1 t ts reach suits u.2)) w

pub now_open_leads : (now : ℤ) (s : Progress) (q : Rest states.NowOpen) (t : Lexeme) (ts : List Lexeme) (reach : Reach)
    → SuitsAt states.NowOpen (at states.NowOpen s) q → ReadsTokens (left_at states.NowOpen now (at states.NowOpen s) q) (t ∷ ts) reach
    → Leads now (at states.NowOpen s) q ts reach (timing s states.NowOpen (moment_at now states.NowOpen t.kind t s.builder.moment))
now_open_leads now s q t ts reach suits w =
    subst (λ (k : Kind). Leads now (at states.NowOpen s) q ts reach (moment_steps now s states.NowOpen t k)) (sym w.0) (q, suits, w.1, refl)

pub now_close_leads : (now : ℤ) (s : Progress) (q : Rest states.NowClose) (t : Lexeme) (ts : List Lexeme) (reach : Reach)
    → SuitsAt states.NowClose (at states.NowClose s) q → ReadsTokens (left_at states.NowClose now (at states.NowClose s) q) (t ∷ ts) reach
    → Leads now (at states.NowClose s) q ts reach (timing s states.NowClose (moment_at now states.NowClose t.kind t s.builder.moment))
now_close_leads now s q t ts reach suits w =
    subst (λ (k : Kind). Leads now (at states.NowClose s) q ts reach (moment_steps now s states.NowClose t k)) (sym w.0) (q, suits, w.1, refl)

change_leads_at : (now : ℤ) (s : Progress) (less : Bool) (l : Lexeme) (cs : List Change) (closing : Closing) (t : Lexeme) (ts : List Lexeme) (reach : Reach)
    → s.builder.filter.depth ≡ levels closing → ReadsTokens (left_at states.AfterMoment now (at states.AfterMoment s) (by_value less l ∷ cs, closing)) (t ∷ ts) reach
    → Leads now (at states.AfterMoment s) (by_value less l ∷ cs, closing) ts reach (moment_steps now s states.AfterMoment t t.kind)
change_leads_at now s false l cs closing t ts reach suits w =
    subst (λ (k : Kind). Leads now (at states.AfterMoment s) (by_value false l ∷ cs, closing) ts reach (moment_steps now s states.AfterMoment t k)) (sym w.0)
    ((l, (cs, closing)), suits, w.1, refl)
change_leads_at now s true l cs closing t ts reach suits w =
    subst (λ (k : Kind). Leads now (at states.AfterMoment s) (by_value true l ∷ cs, closing) ts reach (moment_steps now s states.AfterMoment t k)) (sym w.0)
    ((l, (cs, closing)), suits, w.1, refl)

pub change_leads : (now : ℤ) (s : Progress) (c : Change) (cs : List Change) (closing : Closing) (t : Lexeme) (ts : List Lexeme) (reach : Reach)
    → SuitsAt states.AfterMoment (at states.AfterMoment s) (c ∷ cs, closing) → ReadsTokens (left_at states.AfterMoment now (at states.AfterMoment s) (c ∷ cs, closing)) (t ∷ ts) reach
    → Leads now (at states.AfterMoment s) (c ∷ cs, closing) ts reach (timing s states.AfterMoment (moment_at now states.AfterMoment t.kind t s.builder.moment))
change_leads now s c cs closing t ts reach suits w = change_leads_at now s c.less c.by cs closing t ts reach suits w

-- the check of a change, and the tokens after it
abbrev pub examined_change : ℤ → Progress → Bool → Lexeme → List Change × Closing → List Item
examined_change now s less t r =
    Examine (change_fault (by_value less t)) ∷ left_changes now s s.builder.moment.first (total_after s.builder.moment.total (by_value less t)) r

summed_on : (now : ℤ) (s : Progress) (less : Bool) (t : Lexeme) (n : ℤ) (r : List Change × Closing) (ts : List Lexeme) (reach : Reach) → literal false t.text ≡ Some n
    → ReadsTokens (examined_change now s less t r) ts reach
    → ReadsTokens (left_changes now s s.builder.moment.first (changed_by less s.builder.moment.total n) r) ts reach
summed_on now s less t n r ts reach v w =
    carried (λ (x : ℤ). left_changes now s s.builder.moment.first x r) ts reach (total_after s.builder.moment.total (by_value less t)) (changed_by less s.builder.moment.total n) (sym (sum_of s less t n v))
    (passed (change_fault (by_value less t)) (left_changes now s s.builder.moment.first (total_after s.builder.moment.total (by_value less t)) r) ts reach
    (valued less t n v) w)

change_failed : (now : ℤ) (s : Progress) (less : Bool) (t : Lexeme) (r : List Change × Closing) (ts : List Lexeme) (reach : Reach) (f : Fault)
    → change_fault (by_value less t) ≡ Some f → ReadsTokens (examined_change now s less t r) ts reach → (ts ≡ []) × (reach ≡ At f)
change_failed now s less t r ts reach f is w =
    failed (change_fault (by_value less t)) (left_changes now s s.builder.moment.first (total_after s.builder.moment.total (by_value less t)) r) ts reach f is w

plus_leads_at : (now : ℤ) (s : Progress) (t : Lexeme) (r : List Change × Closing) (ts : List Lexeme) (reach : Reach) → s.builder.filter.depth ≡ levels r.1
    → (o : Option ℤ) → literal false t.text ≡ o → ReadsTokens (examined_change now s false t r) ts reach
    → Leads now (at states.MomentPlus s) (t, r) ts reach (timing s states.MomentPlus (later_by t s.builder.moment o))
plus_leads_at now s t r ts reach suits (Some n) v w = (r, suits, summed_on now s false t n r ts reach v w, summed_says now s false t n r v)
plus_leads_at now s t r ts reach suits None v w = change_failed now s false t r ts reach (OutOfRange t.start) (unvalued false t v) w

pub moment_plus_leads : (now : ℤ) (s : Progress) (q : Rest states.MomentPlus) (t : Lexeme) (ts : List Lexeme) (reach : Reach)
    → SuitsAt states.MomentPlus (at states.MomentPlus s) q → ReadsTokens (left_at states.MomentPlus now (at states.MomentPlus s) q) (t ∷ ts) reach
    → Leads now (at states.MomentPlus s) q ts reach (timing s states.MomentPlus (moment_at now states.MomentPlus t.kind t s.builder.moment))
moment_plus_leads now s q t ts reach suits w =
    subst (λ (x : Lexeme). ReadsTokens (left_at states.MomentPlus now (at states.MomentPlus s) (x, q.1)) (t ∷ ts) reach
    → Leads now (at states.MomentPlus s) (x, q.1) ts reach (moment_steps now s states.MomentPlus t t.kind)) w.0
    (λ u. subst (λ (k : Kind). Leads now (at states.MomentPlus s) (t, q.1) ts reach (moment_steps now s states.MomentPlus t k)) (sym u.1)
    (plus_leads_at now s t q.1 ts reach suits (literal false t.text) refl u.2)) w

less_leads_at : (now : ℤ) (s : Progress) (t : Lexeme) (r : List Change × Closing) (ts : List Lexeme) (reach : Reach) → s.builder.filter.depth ≡ levels r.1
    → (o : Option ℤ) → literal false t.text ≡ o → ReadsTokens (examined_change now s true t r) ts reach
    → Leads now (at states.MomentLess s) (t, r) ts reach (timing s states.MomentLess (earlier_by t s.builder.moment o))
less_leads_at now s t r ts reach suits (Some n) v w = (r, suits, summed_on now s true t n r ts reach v w, summed_says now s true t n r v)
less_leads_at now s t r ts reach suits None v w = change_failed now s true t r ts reach (OutOfRange t.start) (unvalued true t v) w

pub moment_less_leads : (now : ℤ) (s : Progress) (q : Rest states.MomentLess) (t : Lexeme) (ts : List Lexeme) (reach : Reach)
    → SuitsAt states.MomentLess (at states.MomentLess s) q → ReadsTokens (left_at states.MomentLess now (at states.MomentLess s) q) (t ∷ ts) reach
    → Leads now (at states.MomentLess s) q ts reach (timing s states.MomentLess (moment_at now states.MomentLess t.kind t s.builder.moment))
moment_less_leads now s q t ts reach suits w =
    subst (λ (x : Lexeme). ReadsTokens (left_at states.MomentLess now (at states.MomentLess s) (x, q.1)) (t ∷ ts) reach
    → Leads now (at states.MomentLess s) (x, q.1) ts reach (moment_steps now s states.MomentLess t t.kind)) w.0
    (λ u. subst (λ (k : Kind). Leads now (at states.MomentLess s) (t, q.1) ts reach (moment_steps now s states.MomentLess t k)) (sym u.1)
    (less_leads_at now s t q.1 ts reach suits (literal false t.text) refl u.2)) w

-- ---- the end of a moment

-- the moment is a valid time
abbrev pub valid : Moment → Bool
valid m = int_le least_time m.total && int_le m.total greatest_time

-- its time and its fault, by that
abbrev pub time_by : Moment → Bool → Result ℤ Fault
time_by m b = if b then Ok m.total else Err (OutOfRange m.first)

abbrev pub fault_by : Moment → Bool → Option Fault
fault_by m b = if b then None else Some (OutOfRange m.first)

settles_back_by : (m : Moment) (range : Range) (b : Bool) → fault_by m b ≡ None → bounded_by m.comparison range (time_by m b) ≡ Ok (bounded m.comparison m.total range)
settles_back_by m range true w = refl
settles_back_by m range false w = absurd (cc)

unsettled_back_by : (m : Moment) (range : Range) (f : Fault) (b : Bool) → fault_by m b ≡ Some f → (bounded_by m.comparison range (time_by m b) ≡ Err f) × (time_by m b ≡ Err f)
unsettled_back_by m range f true w = absurd (cc)
unsettled_back_by m range f false w = let same : OutOfRange m.first ≡ f = cc in (ap Err same, ap Err same)

pub settles_back : (s : Progress) → time_fault s.builder.moment.first s.builder.moment.total ≡ None
    → narrowed s.builder.moment s.builder.range ≡ Ok (bounded s.builder.moment.comparison s.builder.moment.total s.builder.range)
unfolding narrowed
settles_back s w = settles_back_by s.builder.moment s.builder.range (valid s.builder.moment) w

pub unsettled_back : (s : Progress) (f : Fault) → time_fault s.builder.moment.first s.builder.moment.total ≡ Some f
    → (narrowed s.builder.moment s.builder.range ≡ Err f) × (moment_time s.builder.moment ≡ Err f)
unfolding narrowed
unsettled_back s f w = unsettled_back_by s.builder.moment s.builder.range f (valid s.builder.moment) w
