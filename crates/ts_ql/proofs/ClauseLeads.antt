-- States in which a clause or a statement may end: the next token of a rest leads to the remaining rest.
use Rattle.std.proofs.Common.{◌≡◌, ℤ, ◌<◌, List, [], ◌∷◌, Bool, true, false, Option, Some, None, arith, refl, sym, ap, subst}
use Rattle.ts_ql.specs.declared.state.State.{State}
use Rattle.ts_ql.specs.declared.state.State.TheVariants as states
use Rattle.ts_ql.specs.declared.token.Kind.{Kind}
use Rattle.ts_ql.specs.Grammar.{Item, Cond, Dimension, GroupBy, FillOption, Ending, Stop, RightParen, Next}
use Rattle.ts_ql.specs.GroupSteps.{group_step}
use Rattle.ts_ql.specs.Laws.{Reach, ReadsTokens}
use Rattle.ts_ql.specs.Reading.{Progress, Advance, is_end, may_end, builder_step}
use Rattle.ts_ql.specs.Builders.{meaning}
use Rattle.ts_ql.specs.Tokens.{Lexeme}
use Rattle.ts_ql.specs.WhereSteps.{where_step}
use Rattle.ts_ql.proofs.Rests.{DimensionTail, FilterTail, Closing, Outside, Inside, levels, left_ending, Rest, left_at}
use Rattle.ts_ql.proofs.Steps.{at, Leads}
use Rattle.ts_ql.proofs.EndRuns.{EndsAt, end_steps, ending_leads}
use Rattle.ts_ql.proofs.ClauseRuns.{continued_by, measurement_ends, term_ends, tag_ends, item_ends, fill_ends}
use Rattle.ts_ql.proofs.WhereRuns.{after_term_leads}
use Rattle.ts_ql.proofs.GroupRuns.{tag_cast_leads, tag_comma_leads, item_comma_leads}
use Rattle.ts_ql.proofs.KeywordLemmas.{not_where_group, not_group_and}

-- ---- the end of a statement

ends_by : (now : ℤ) (s : Progress) (p : State) (t : Lexeme) (k : Kind) → may_end p ≡ true → is_end k ≡ true → end_steps now s p k ≡ continued_by now s p t k
ends_by now s p t k may is = rw (may, is) refl

ending_token : (now : ℤ) (s : Progress) (e : Ending) (t : Lexeme) (ts : List Lexeme) (reach : Reach) → ReadsTokens (left_ending now s (meaning s.builder) e) (t ∷ ts) reach → is_end t.kind ≡ true
ending_token now s Stop t ts reach v = ap is_end v.0
ending_token now s RightParen t ts reach v = ap is_end v.0
ending_token now s (Next st e) t ts reach v = ap is_end v.0

ending_leads_on : (now : ℤ) (s : Progress) (p : State) (w : EndsAt now s p) → may_end p ≡ true → (e : Ending) (t : Lexeme) (ts : List Lexeme) (reach : Reach) → 0 < s.count
    → ReadsTokens (left_at p now (at p s) (w.rest e)) (t ∷ ts) reach → Leads now (at p s) (w.rest e) ts reach (continued_by now s p t t.kind)
ending_leads_on now s p w may e t ts reach some v =
    let is : is_end t.kind ≡ true = ending_token now s e t ts reach (subst (λ (items : List Item). ReadsTokens items (t ∷ ts) reach) (w.left_same e) v) in
    subst (λ (x : Advance). Leads now (at p s) (w.rest e) ts reach x) (ends_by now s p t t.kind may is) (ending_leads now s p w e t ts reach some v)

-- ---- after the measurement

measurement_leads_at : (now : ℤ) (s : Progress) (f : Option Cond) (g : Option GroupBy) (o : Option FillOption) (e : Ending) (t : Lexeme) (ts : List Lexeme) (reach : Reach)
    → s.builder.filter.depth ≡ 0 → 0 < s.count → ReadsTokens (left_at states.AfterMeasurement now (at states.AfterMeasurement s) (f, (g, (o, e)))) (t ∷ ts) reach
    → Leads now (at states.AfterMeasurement s) (f, (g, (o, e))) ts reach (continued_by now s states.AfterMeasurement t t.kind)
measurement_leads_at now s (Some c) g o e t ts reach sound some v =
    subst (λ (k : Kind). Leads now (at states.AfterMeasurement s) (Some c, (g, (o, e))) ts reach (continued_by now s states.AfterMeasurement t k)) (sym v.0.0)
    (rw (v.0.1) ((c, Outside [] (g, (o, e))), sound, v.1, refl))
measurement_leads_at now s None (Some g) o e t ts reach sound some v =
    subst (λ (k : Kind). Leads now (at states.AfterMeasurement s) (None, (Some g, (o, e))) ts reach (continued_by now s states.AfterMeasurement t k)) (sym v.0.0)
    (rw (not_where_group t.text v.0.1, v.0.1) ((g.first, (g.more, (o, e))), tt, v.1, refl))
measurement_leads_at now s None None (Some o) e t ts reach sound some v =
    subst (λ (k : Kind). Leads now (at states.AfterMeasurement s) (None, (None, (Some o, e))) ts reach (continued_by now s states.AfterMeasurement t k)) (sym v.0.0)
    (rw (v.0.1) ((o, e), tt, v.1, refl))
measurement_leads_at now s None None None e t ts reach sound some v =
    ending_leads_on now s states.AfterMeasurement (measurement_ends now s) refl e t ts reach some v

pub measurement_leads : (now : ℤ) (s : Progress) (q : FilterTail) (t : Lexeme) (ts : List Lexeme) (reach : Reach)
    → s.builder.filter.depth ≡ 0 → 0 < s.count → ReadsTokens (left_at states.AfterMeasurement now (at states.AfterMeasurement s) q) (t ∷ ts) reach
    → Leads now (at states.AfterMeasurement s) q ts reach (continued_by now s states.AfterMeasurement t t.kind)
measurement_leads now s q t ts reach sound some v = measurement_leads_at now s q.0 q.1.0 q.1.1.0 q.1.1.1 t ts reach sound some v

-- ---- after a term

outside_leads : (now : ℤ) (s : Progress) (cs : List Cond) (g : Option GroupBy) (o : Option FillOption) (e : Ending) (t : Lexeme) (ts : List Lexeme) (reach : Reach)
    → s.builder.filter.depth ≡ 0 → 0 < s.count → ReadsTokens (left_at states.AfterTerm now (at states.AfterTerm s) (Outside cs (g, (o, e)))) (t ∷ ts) reach
    → Leads now (at states.AfterTerm s) (Outside cs (g, (o, e))) ts reach (continued_by now s states.AfterTerm t t.kind)
unfolding builder_step where_step
outside_leads now s (c ∷ cs) g o e t ts reach sound some v =
    subst (λ (k : Kind). Leads now (at states.AfterTerm s) (Outside (c ∷ cs) (g, (o, e))) ts reach (continued_by now s states.AfterTerm t k)) (sym v.0.0)
    (rw (not_group_and t.text v.0.1) (after_term_leads now s c cs (g, (o, e)) t ts reach sound v))
outside_leads now s [] (Some g) o e t ts reach sound some v =
    subst (λ (k : Kind). Leads now (at states.AfterTerm s) (Outside [] (Some g, (o, e))) ts reach (continued_by now s states.AfterTerm t k)) (sym v.0.0)
    (rw (v.0.1) ((g.first, (g.more, (o, e))), tt, v.1, refl))
outside_leads now s [] None (Some o) e t ts reach sound some v =
    subst (λ (k : Kind). Leads now (at states.AfterTerm s) (Outside [] (None, (Some o, e))) ts reach (continued_by now s states.AfterTerm t k)) (sym v.0.0)
    (rw (v.0.1) ((o, e), tt, v.1, refl))
outside_leads now s [] None None e t ts reach sound some v = ending_leads_on now s states.AfterTerm (term_ends now s sound) refl e t ts reach some v

pub term_leads_on : (now : ℤ) (s : Progress) (q : Closing) (t : Lexeme) (ts : List Lexeme) (reach : Reach)
    → s.builder.filter.depth ≡ 0 → s.builder.filter.depth ≡ levels q → 0 < s.count → ReadsTokens (left_at states.AfterTerm now (at states.AfterTerm s) q) (t ∷ ts) reach
    → Leads now (at states.AfterTerm s) q ts reach (continued_by now s states.AfterTerm t t.kind)
term_leads_on now s (Outside cs tail) t ts reach sound suits some v = outside_leads now s cs tail.0 tail.1.0 tail.1.1 t ts reach sound some v
term_leads_on now s (Inside cs closing) t ts reach sound suits some v = absurd (omega (arith, sound, suits))

-- ---- after an item

tag_leads_at : (now : ℤ) (s : Progress) (ds : List Dimension) (o : Option FillOption) (e : Ending) (t : Lexeme) (ts : List Lexeme) (reach : Reach)
    → 0 < s.count → ReadsTokens (left_at states.AfterTag now (at states.AfterTag s) (false, (ds, (o, e)))) (t ∷ ts) reach
    → Leads now (at states.AfterTag s) (false, (ds, (o, e))) ts reach (continued_by now s states.AfterTag t t.kind)
unfolding builder_step group_step
tag_leads_at now s (d ∷ ds) o e t ts reach some v =
    subst (λ (k : Kind). Leads now (at states.AfterTag s) (false, (d ∷ ds, (o, e))) ts reach (continued_by now s states.AfterTag t k)) (sym v.0)
    (tag_comma_leads now s d (ds, (o, e)) t ts reach v)
tag_leads_at now s [] (Some o) e t ts reach some v =
    subst (λ (k : Kind). Leads now (at states.AfterTag s) (false, ([], (Some o, e))) ts reach (continued_by now s states.AfterTag t k)) (sym v.0.0)
    (rw (v.0.1) ((o, e), tt, v.1, refl))
tag_leads_at now s [] None e t ts reach some v = ending_leads_on now s states.AfterTag (tag_ends now s) refl e t ts reach some v

cast_or_leads : (now : ℤ) (s : Progress) (b : Bool) (r : DimensionTail) (t : Lexeme) (ts : List Lexeme) (reach : Reach)
    → 0 < s.count → ReadsTokens (left_at states.AfterTag now (at states.AfterTag s) (b, r)) (t ∷ ts) reach
    → Leads now (at states.AfterTag s) (b, r) ts reach (continued_by now s states.AfterTag t t.kind)
unfolding builder_step group_step
cast_or_leads now s true r t ts reach some v =
    subst (λ (k : Kind). Leads now (at states.AfterTag s) (true, r) ts reach (continued_by now s states.AfterTag t k)) (sym v.0)
    (tag_cast_leads now s r t ts reach v)
cast_or_leads now s false r t ts reach some v = tag_leads_at now s r.0 r.1.0 r.1.1 t ts reach some v

pub tag_leads : (now : ℤ) (s : Progress) (q : Rest states.AfterTag) (t : Lexeme) (ts : List Lexeme) (reach : Reach)
    → 0 < s.count → ReadsTokens (left_at states.AfterTag now (at states.AfterTag s) q) (t ∷ ts) reach
    → Leads now (at states.AfterTag s) q ts reach (continued_by now s states.AfterTag t t.kind)
tag_leads now s q t ts reach some v = cast_or_leads now s q.0 q.1 t ts reach some v

item_leads_at : (now : ℤ) (s : Progress) (ds : List Dimension) (o : Option FillOption) (e : Ending) (t : Lexeme) (ts : List Lexeme) (reach : Reach)
    → 0 < s.count → ReadsTokens (left_at states.AfterItem now (at states.AfterItem s) (ds, (o, e))) (t ∷ ts) reach
    → Leads now (at states.AfterItem s) (ds, (o, e)) ts reach (continued_by now s states.AfterItem t t.kind)
unfolding builder_step group_step
item_leads_at now s (d ∷ ds) o e t ts reach some v =
    subst (λ (k : Kind). Leads now (at states.AfterItem s) (d ∷ ds, (o, e)) ts reach (continued_by now s states.AfterItem t k)) (sym v.0)
    (item_comma_leads now s d (ds, (o, e)) t ts reach v)
item_leads_at now s [] (Some o) e t ts reach some v =
    subst (λ (k : Kind). Leads now (at states.AfterItem s) ([], (Some o, e)) ts reach (continued_by now s states.AfterItem t k)) (sym v.0.0)
    (rw (v.0.1) ((o, e), tt, v.1, refl))
item_leads_at now s [] None e t ts reach some v = ending_leads_on now s states.AfterItem (item_ends now s) refl e t ts reach some v

pub item_leads_on : (now : ℤ) (s : Progress) (q : DimensionTail) (t : Lexeme) (ts : List Lexeme) (reach : Reach)
    → 0 < s.count → ReadsTokens (left_at states.AfterItem now (at states.AfterItem s) q) (t ∷ ts) reach
    → Leads now (at states.AfterItem s) q ts reach (continued_by now s states.AfterItem t t.kind)
item_leads_on now s q t ts reach some v = item_leads_at now s q.0 q.1.0 q.1.1 t ts reach some v

pub filled_leads : (now : ℤ) (s : Progress) (q : Ending) (t : Lexeme) (ts : List Lexeme) (reach : Reach)
    → 0 < s.count → ReadsTokens (left_at states.AfterFill now (at states.AfterFill s) q) (t ∷ ts) reach
    → Leads now (at states.AfterFill s) q ts reach (continued_by now s states.AfterFill t t.kind)
filled_leads now s q t ts reach some v = ending_leads_on now s states.AfterFill (fill_ends now s) refl q t ts reach some v
