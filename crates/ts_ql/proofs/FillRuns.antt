-- FILL: the step of each token, and the tokens of each rest.
use Rattle.std.proofs.Common.{◌≡◌, inl, inr, ℤ, pos, List, ◌∷◌, ◌++◌, Bool, true, false, Option, Some, None, Ok, Err, map, refl, sym, ap, subst}
use Rattle.std.specs.Prelude.{codes, if◌then◌else◌}
use Rattle.std.specs.Option.{unwrap_or}
use Rattle.ts_core.specs.declared.queries.fill.Fill.TheVariants as fills
use Rattle.ts_ql.specs.declared.state.State.{State}
use Rattle.ts_ql.specs.declared.state.State.TheVariants as states
use Rattle.ts_ql.specs.declared.token.Kind.{Kind}
use Rattle.ts_ql.specs.declared.token.Kind.TheVariants as kinds
use Rattle.ts_ql.specs.QueryFaults.{unexpected, OutOfRange}
use Rattle.ts_ql.specs.Grammar.{Item, Any, Of, Examine, Count, FillOption, NullOption, NoneOption, PreviousOption, NumberOption, Ending, Stop}
use Rattle.ts_ql.specs.GroupSteps.{FillStep, fill_at, with_number, chosen}
use Rattle.ts_ql.specs.Laws.{Reach, ReadsTokens}
use Rattle.ts_ql.specs.Literals.{is_word, literal}
use Rattle.ts_ql.specs.Reading.{Progress, Advance, with_builder, in_filling}
use Rattle.ts_ql.specs.Tokens.{Lexeme}
use Rattle.ts_ql.specs.Productions.{literal_fault, spell_number}
use Rattle.ts_ql.specs.Builders.{meaning}
use Rattle.ts_ql.proofs.Rests.{left_at, left_ending, said_ending}
use Rattle.ts_ql.proofs.KeywordLemmas.{not_null_none, not_null_previous, not_none_previous}
use Rattle.ts_ql.proofs.Steps.{at, Answer, Leads, passes, fails, passed, failed, carried}

abbrev pub filled : Progress → State → FillStep → Advance
filled s p step = with_builder (at p s) (in_filling s.builder step)

-- the end of a statement filled with that number
abbrev pub numbered_ending : ℤ → Progress → Ending → ℤ → List Item
numbered_ending now s r n = Any (Of kinds.RightParen) ∷ left_ending now s (record (meaning s.builder) { fill = fills.Number n }) r

-- a number, or none in its range
numbered : (now : ℤ) (s : Progress) (t : Lexeme) → t.kind ≡ kinds.Integer → (o : Option ℤ) → literal false t.text ≡ o
    → Answer now (at states.FillOption s) t (filled s states.FillOption (with_number t.start s.builder.filling o))
numbered now s t e (Some n) v =
    let value : n ≡ unwrap_or (literal false t.text) (pos 0) = sym (ap (λ (o : Option ℤ). unwrap_or o (pos 0)) v) in (
      tt,
      λ r suits. (
        (NumberOption (record { minus = None; number = t }), r),
        tt,
        (λ ts reach w. (
          refl,
          e,
          passes (literal_fault t.start (literal false t.text)) (numbered_ending now s r (unwrap_or (literal false t.text) (pos 0))) ts reach (ap (literal_fault t.start) v)
              (carried (numbered_ending now s r) ts reach n (unwrap_or (literal false t.text) (pos 0)) value w),
        )),
        ap (λ (m : ℤ). map Ok s.queries ++ said_ending now s (record (meaning s.builder) { fill = fills.Number m }) r) (sym value),
      ),
    )
numbered now s t e None v =
    inl ((NumberOption (record { minus = None; number = t }), Stop), tt, inr (refl, e, fails (literal_fault t.start (literal false t.text)) (numbered_ending now s Stop (unwrap_or (literal false t.text) (pos 0))) (OutOfRange t.start) (ap (literal_fault t.start) v)))

negative : (now : ℤ) (s : Progress) (t : Lexeme) → t.kind ≡ kinds.Integer → (o : Option ℤ) → literal true t.text ≡ o
    → Answer now (at states.FillMinus s) t (filled s states.FillMinus (with_number s.builder.filling.first s.builder.filling o))
negative now s t e (Some n) v =
    let value : n ≡ unwrap_or (literal true t.text) (pos 0) = sym (ap (λ (o : Option ℤ). unwrap_or o (pos 0)) v) in (
      tt,
      λ r suits. (
        (t, r),
        tt,
        (λ ts reach w. (
          refl,
          e,
          passes (literal_fault s.builder.filling.first (literal true t.text)) (numbered_ending now s r (unwrap_or (literal true t.text) (pos 0))) ts reach (ap (literal_fault s.builder.filling.first) v)
              (carried (numbered_ending now s r) ts reach n (unwrap_or (literal true t.text) (pos 0)) value w),
        )),
        ap (λ (m : ℤ). map Ok s.queries ++ said_ending now s (record (meaning s.builder) { fill = fills.Number m }) r) (sym value),
      ),
    )
negative now s t e None v =
    inl ((t, Stop), tt, inr (refl, e, fails (literal_fault s.builder.filling.first (literal true t.text)) (numbered_ending now s Stop (unwrap_or (literal true t.text) (pos 0))) (OutOfRange s.builder.filling.first) (ap (literal_fault s.builder.filling.first) v)))

-- a word: null, none, previous, or another
previous : (now : ℤ) (s : Progress) (t : Lexeme) → t.kind ≡ kinds.Word → (b : Bool) → is_word (codes "previous") t.text ≡ b
    → Answer now (at states.FillOption s) t (filled s states.FillOption (if b then chosen fills.Previous s.builder.filling else Err (unexpected t)))
previous now s t e true is = (tt, λ r suits. ((PreviousOption, r), tt, (λ ts reach w. ((e, is), w)), refl))
previous now s t e false is = inr refl

none_or : (now : ℤ) (s : Progress) (t : Lexeme) → t.kind ≡ kinds.Word → (b : Bool) → is_word (codes "none") t.text ≡ b
    → Answer now (at states.FillOption s) t (filled s states.FillOption (if b then chosen fills.None s.builder.filling
    else if is_word (codes "previous") t.text then chosen fills.Previous s.builder.filling else Err (unexpected t)))
none_or now s t e true is = (tt, λ r suits. ((NoneOption, r), tt, (λ ts reach w. ((e, is), w)), refl))
none_or now s t e false is = previous now s t e (is_word (codes "previous") t.text) refl

null_or : (now : ℤ) (s : Progress) (t : Lexeme) → t.kind ≡ kinds.Word → (b : Bool) → is_word (codes "null") t.text ≡ b
    → Answer now (at states.FillOption s) t (filled s states.FillOption (if b then chosen fills.Null s.builder.filling
    else if is_word (codes "none") t.text then chosen fills.None s.builder.filling
    else if is_word (codes "previous") t.text then chosen fills.Previous s.builder.filling else Err (unexpected t)))
null_or now s t e true is = (tt, λ r suits. ((NullOption, r), tt, (λ ts reach w. ((e, is), w)), refl))
null_or now s t e false is = none_or now s t e (is_word (codes "none") t.text) refl

pub fill_answers : (now : ℤ) (s : Progress) (p : State) (k : Kind) (t : Lexeme) → t.kind ≡ k
    → Answer now (at p s) t (filled s p (fill_at p k t s.builder.filling))
fill_answers now s states.FillOpen kinds.LeftParen t e = (tt, λ r suits. (r, tt, (λ ts reach w. (e, w)), refl))
fill_answers now s states.FillOption kinds.Word t e = null_or now s t e (is_word (codes "null") t.text) refl
fill_answers now s states.FillOption kinds.Minus t e =
    (tt, λ r suits. ((NumberOption (record { minus = Some t; number = r.0 }), r.1), tt, (λ ts reach w. (refl, e, w)), refl))
fill_answers now s states.FillOption kinds.Integer t e = numbered now s t e (literal false t.text) refl
fill_answers now s states.FillMinus kinds.Integer t e = negative now s t e (literal true t.text) refl
fill_answers now s states.FillClose kinds.RightParen t e = (tt, λ r suits. (r, tt, (λ ts reach w. (e, w)), refl))
fill_answers now s p k t e = inr refl

-- ---- from trees

-- a number in its range leads on; another is at fault
number_leads : (now : ℤ) (s : Progress) (t : Lexeme) (r : Ending) (ts : List Lexeme) (reach : Reach) (o : Option ℤ) → literal false t.text ≡ o
    → ReadsTokens (Examine (literal_fault t.start (literal false t.text)) ∷ numbered_ending now s r (unwrap_or (literal false t.text) (pos 0))) ts reach
    → Leads now (at states.FillOption s) (NumberOption (record { minus = None; number = t }), r) ts reach (filled s states.FillOption (with_number t.start s.builder.filling o))
number_leads now s t r ts reach (Some n) v w =
    let value : unwrap_or (literal false t.text) (pos 0) ≡ n = ap (λ (o : Option ℤ). unwrap_or o (pos 0)) v in (
      r,
      tt,
      carried (numbered_ending now s r) ts reach (unwrap_or (literal false t.text) (pos 0)) n value
          (passed (literal_fault t.start (literal false t.text)) (numbered_ending now s r (unwrap_or (literal false t.text) (pos 0))) ts reach (ap (literal_fault t.start) v) w),
      ap (λ (m : ℤ). map Ok s.queries ++ said_ending now s (record (meaning s.builder) { fill = fills.Number m }) r) value,
    )
number_leads now s t r ts reach None v w =
    failed (literal_fault t.start (literal false t.text)) (numbered_ending now s r (unwrap_or (literal false t.text) (pos 0))) ts reach (OutOfRange t.start) (ap (literal_fault t.start) v) w

negative_leads : (now : ℤ) (s : Progress) (t : Lexeme) (r : Ending) (ts : List Lexeme) (reach : Reach) (o : Option ℤ) → literal true t.text ≡ o
    → ReadsTokens (Examine (literal_fault s.builder.filling.first (literal true t.text)) ∷ numbered_ending now s r (unwrap_or (literal true t.text) (pos 0))) ts reach
    → Leads now (at states.FillMinus s) (t, r) ts reach (filled s states.FillMinus (with_number s.builder.filling.first s.builder.filling o))
negative_leads now s t r ts reach (Some n) v w =
    let value : unwrap_or (literal true t.text) (pos 0) ≡ n = ap (λ (o : Option ℤ). unwrap_or o (pos 0)) v in (
      r,
      tt,
      carried (numbered_ending now s r) ts reach (unwrap_or (literal true t.text) (pos 0)) n value
          (passed (literal_fault s.builder.filling.first (literal true t.text)) (numbered_ending now s r (unwrap_or (literal true t.text) (pos 0))) ts reach (ap (literal_fault s.builder.filling.first) v) w),
      ap (λ (m : ℤ). map Ok s.queries ++ said_ending now s (record (meaning s.builder) { fill = fills.Number m }) r) value,
    )
negative_leads now s t r ts reach None v w =
    failed (literal_fault s.builder.filling.first (literal true t.text)) (numbered_ending now s r (unwrap_or (literal true t.text) (pos 0))) ts reach (OutOfRange s.builder.filling.first) (ap (literal_fault s.builder.filling.first) v) w

-- the step by the kind of the token
abbrev pub fill_steps : Progress → State → Lexeme → Kind → Advance
fill_steps s p t k = filled s p (fill_at p k t s.builder.filling)

pub open_leads : (now : ℤ) (s : Progress) (q : FillOption × Ending) (t : Lexeme) (ts : List Lexeme) (reach : Reach)
    → ReadsTokens (left_at states.FillOpen now (at states.FillOpen s) q) (t ∷ ts) reach → Leads now (at states.FillOpen s) q ts reach (fill_steps s states.FillOpen t t.kind)
open_leads now s q t ts reach w =
    subst (λ (k : Kind). Leads now (at states.FillOpen s) q ts reach (fill_steps s states.FillOpen t k)) (sym w.0) (q, tt, w.1, refl)

abbrev pub OptionLeads : ℤ → Progress → FillOption → Ending → Lexeme → List Lexeme → Reach → Kind → Type 0
OptionLeads now s o r t ts reach k = Leads now (at states.FillOption s) (o, r) ts reach (fill_steps s states.FillOption t k)

signed_leads : (now : ℤ) (s : Progress) (m : Option Lexeme) (l : Lexeme) (r : Ending) (t : Lexeme) (ts : List Lexeme) (reach : Reach)
    → ReadsTokens (left_at states.FillOption now (at states.FillOption s) (NumberOption (record { minus = m; number = l }), r)) (t ∷ ts) reach
    → OptionLeads now s (NumberOption (record { minus = m; number = l })) r t ts reach t.kind
signed_leads now s None l r t ts reach w =
    subst (OptionLeads now s (NumberOption (record { minus = None; number = l })) r t ts reach) (sym w.1)
    (subst (λ (x : Lexeme). ReadsTokens (Examine (literal_fault x.start (literal false x.text)) ∷ numbered_ending now s r (unwrap_or (literal false x.text) (pos 0))) ts reach
    → OptionLeads now s (NumberOption (record { minus = None; number = x })) r t ts reach kinds.Integer) w.0
    (number_leads now s t r ts reach (literal false t.text) refl) w.2)
signed_leads now s (Some m) l r t ts reach w =
    subst (OptionLeads now s (NumberOption (record { minus = Some m; number = l })) r t ts reach) (sym w.1)
    (subst (λ (x : Lexeme). ReadsTokens (spell_number None Count l (Examine (literal_fault x.start (literal true l.text)) ∷ numbered_ending now s r (unwrap_or (literal true l.text) (pos 0)))) ts reach
    → OptionLeads now s (NumberOption (record { minus = Some x; number = l })) r t ts reach kinds.Minus) w.0
    (λ v. ((l, r), tt, v, refl)) w.2)

option_leads_at : (now : ℤ) (s : Progress) (o : FillOption) (r : Ending) (t : Lexeme) (ts : List Lexeme) (reach : Reach)
    → ReadsTokens (left_at states.FillOption now (at states.FillOption s) (o, r)) (t ∷ ts) reach → OptionLeads now s o r t ts reach t.kind
option_leads_at now s NullOption r t ts reach w = subst (OptionLeads now s NullOption r t ts reach) (sym w.0.0)
    (rw (w.0.1) (r, tt, w.1, refl))
option_leads_at now s NoneOption r t ts reach w = subst (OptionLeads now s NoneOption r t ts reach) (sym w.0.0)
    (rw (not_null_none t.text w.0.1, w.0.1) (r, tt, w.1, refl))
option_leads_at now s PreviousOption r t ts reach w = subst (OptionLeads now s PreviousOption r t ts reach) (sym w.0.0)
    (rw (not_null_previous t.text w.0.1, not_none_previous t.text w.0.1, w.0.1) (r, tt, w.1, refl))
option_leads_at now s (NumberOption n) r t ts reach w = signed_leads now s n.minus n.number r t ts reach w

pub option_leads : (now : ℤ) (s : Progress) (q : FillOption × Ending) (t : Lexeme) (ts : List Lexeme) (reach : Reach)
    → ReadsTokens (left_at states.FillOption now (at states.FillOption s) q) (t ∷ ts) reach → Leads now (at states.FillOption s) q ts reach (fill_steps s states.FillOption t t.kind)
option_leads now s q t ts reach w = option_leads_at now s q.0 q.1 t ts reach w

pub minus_leads : (now : ℤ) (s : Progress) (q : Lexeme × Ending) (t : Lexeme) (ts : List Lexeme) (reach : Reach)
    → ReadsTokens (left_at states.FillMinus now (at states.FillMinus s) q) (t ∷ ts) reach → Leads now (at states.FillMinus s) q ts reach (fill_steps s states.FillMinus t t.kind)
minus_leads now s q t ts reach w =
    subst (λ (k : Kind). Leads now (at states.FillMinus s) q ts reach (fill_steps s states.FillMinus t k)) (sym w.1)
    (subst (λ (l : Lexeme). ReadsTokens (Examine (literal_fault s.builder.filling.first (literal true l.text)) ∷ numbered_ending now s q.1 (unwrap_or (literal true l.text) (pos 0))) ts reach
    → Leads now (at states.FillMinus s) (l, q.1) ts reach (fill_steps s states.FillMinus t kinds.Integer)) w.0
    (negative_leads now s t q.1 ts reach (literal true t.text) refl) w.2)

pub close_leads : (now : ℤ) (s : Progress) (q : Ending) (t : Lexeme) (ts : List Lexeme) (reach : Reach)
    → ReadsTokens (left_at states.FillClose now (at states.FillClose s) q) (t ∷ ts) reach → Leads now (at states.FillClose s) q ts reach (fill_steps s states.FillClose t t.kind)
close_leads now s q t ts reach w =
    subst (λ (k : Kind). Leads now (at states.FillClose s) q ts reach (fill_steps s states.FillClose t k)) (sym w.0) (q, tt, w.1, refl)
