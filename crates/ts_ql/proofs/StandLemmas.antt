-- The state where the tokens end: in the middle of a text, at its end, or after a moment that isn't a valid time.
use Rattle.std.proofs.Common.{◌≡◌, ℕ, ℤ, List, [], ◌∷◌, Bool, true, false, Option, Some, None, refl, sym, subst}
use Rattle.std.specs.Prelude.{⊤}
use Rattle.ts_ql.specs.declared.state.State.{State}
use Rattle.ts_ql.specs.declared.state.State.TheVariants as states
use Rattle.ts_ql.specs.QueryFaults.{Fault}
use Rattle.ts_ql.specs.Grammar.{Item, Any, This, Examine, FieldType, Call, FromClause, Measurement, Subquery, Measure, Base, Number, Negative, Quoted, Now, Change, Cond, Compare, Match, Group, And, Signed, Dimension, Every, ByTag, GroupBy, FillOption, NullOption, NoneOption, PreviousOption, NumberOption, Ending, Stop, RightParen, Next}
use Rattle.ts_ql.specs.Laws.{Reach, Within, ReadsTokens}
use Rattle.ts_ql.specs.Reading.{Progress}
use Rattle.ts_ql.specs.Productions.{spell_type, spell_alias, spell_from, spell_base, spell_tag_type, spell_cond, spell_number, spell_offset, spell_dimension, spell_option}
use Rattle.ts_ql.specs.Statements.{Meaning}
use Rattle.ts_ql.specs.Builders.{meaning}
use Rattle.ts_ql.specs.Tokens.{Lexeme}
use Rattle.ts_ql.proofs.Rests.{FillTail, GroupTail, FilterTail, Closing, Outside, Inside, left_ending, left_fill, left_dimensions, left_group, left_filter, left_select, left_closing, left_statement, Rest, left, left_at}
use Rattle.ts_ql.proofs.Steps.{at, Stands, passed, failed}
use Rattle.ts_ql.proofs.MachineAnswers.{bounding, moment_fault}
use Rattle.ts_ql.proofs.MomentRuns.{unsettled_back}

-- ---- spellings that begin with a token

abbrev Starts : List Item → Type 0
Starts [] = ⊥
Starts (Any sort ∷ rest) = ⊤
Starts (This sort l ∷ rest) = ⊤
Starts (Examine f ∷ rest) = ⊥

within : (items : List Item) (reach : Reach) → Starts items → ReadsTokens items [] reach → reach ≡ Within
within [] reach starts v = absurd starts
within (Any sort ∷ rest) reach starts v = v.0
within (This sort l ∷ rest) reach starts v = v.0
within (Examine f ∷ rest) reach starts v = absurd starts

type_starts : (o : Option FieldType) (rest : List Item) → Starts rest → Starts (spell_type o rest)
type_starts None rest starts = starts
type_starts (Some t) rest starts = tt

alias_starts : (o : Option Lexeme) (rest : List Item) → Starts rest → Starts (spell_alias o rest)
alias_starts None rest starts = starts
alias_starts (Some l) rest starts = tt

source_starts : (source : FromClause) (rest : List Item) → Starts (spell_from source rest)
source_starts (Measurement l) rest = tt
source_starts (Subquery l) rest = tt

tag_starts : (b : Bool) (rest : List Item) → Starts rest → Starts (spell_tag_type b rest)
tag_starts false rest starts = starts
tag_starts true rest starts = tt

base_starts : (now : ℤ) (b : Base) (rest : List Item) → Starts (spell_base now b rest)
base_starts now (Number m l) rest = tt
base_starts now (Negative minus m l) rest = tt
base_starts now (Quoted l) rest = tt
base_starts now (Now l) rest = tt

cond_starts : (now : ℤ) (depth : ℕ) (c : Cond) (rest : List Item) → Starts (spell_cond now depth c rest)
cond_starts now depth (Compare l c i) rest = tt
cond_starts now depth (Match tag cast negated value) rest = tt
cond_starts now depth (Group l c) rest = tt
cond_starts now depth (And a b) rest = cond_starts now depth a _

number_starts : (o : Option Lexeme) (m : Measure) (l : Lexeme) (rest : List Item) → Starts (spell_number o m l rest)
number_starts None m l rest = tt
number_starts (Some minus) m l rest = tt

offset_starts : (o : Option Signed) (rest : List Item) → Starts rest → Starts (spell_offset o rest)
offset_starts None rest starts = starts
offset_starts (Some s) rest starts = tt

dimension_starts : (p : Meaning) (d : Dimension) (rest : List Item) → Starts (spell_dimension p d rest)
dimension_starts p (Every time interval offset) rest = tt
dimension_starts p (ByTag tag cast) rest = tt

option_starts : (o : FillOption) (rest : List Item) → Starts (spell_option o rest)
option_starts NullOption rest = tt
option_starts NoneOption rest = tt
option_starts PreviousOption rest = tt
option_starts (NumberOption s) rest = number_starts s.minus _ s.number _

ending_starts : (now : ℤ) (s : Progress) (p : Meaning) (e : Ending) → Starts (left_ending now s p e)
ending_starts now s p Stop = tt
ending_starts now s p RightParen = tt
ending_starts now s p (Next st e) = tt

fill_starts : (now : ℤ) (s : Progress) (p : Meaning) (o : Option FillOption) (e : Ending) → Starts (left_fill now s p (o, e))
fill_starts now s p (Some o) e = tt
fill_starts now s p None e = ending_starts now s p e

dimensions_start : (now : ℤ) (s : Progress) (p : Meaning) (ds : List Dimension) (tail : FillTail) → Starts (left_dimensions now s p (ds, tail))
dimensions_start now s p (d ∷ ds) tail = tt
dimensions_start now s p [] tail = fill_starts now s p tail.0 tail.1

group_starts : (now : ℤ) (s : Progress) (p : Meaning) (g : Option GroupBy) (tail : FillTail) → Starts (left_group now s p (g, tail))
group_starts now s p (Some g) tail = tt
group_starts now s p None tail = fill_starts now s p tail.0 tail.1

filter_starts : (now : ℤ) (s : Progress) (p : Meaning) (f : Option Cond) (tail : GroupTail) → Starts (left_filter now s p (f, tail))
filter_starts now s p (Some c) tail = tt
filter_starts now s p None tail = group_starts now s p tail.0 tail.1

select_starts : (now : ℤ) (s : Progress) (p : Meaning) (more : List Call) (tail : FromClause × FilterTail) → Starts (left_select now s p (more, tail))
select_starts now s p (a ∷ more) tail = tt
select_starts now s p [] tail = tt

closing_starts : (now : ℤ) (s : Progress) (p : Meaning) (q : Closing) → Starts (left_closing now s p q)
closing_starts now s p (Outside (c ∷ cs) tail) = tt
closing_starts now s p (Outside [] tail) = group_starts now s p tail.0 tail.1
closing_starts now s p (Inside (c ∷ cs) closing) = tt
closing_starts now s p (Inside [] closing) = tt

statement_starts : (now : ℤ) (s : Progress) (q : Rest states.Statement) → Starts (left_statement now s q)
statement_starts now s None = tt
statement_starts now s (Some r) = tt

abbrev IsOpen : State → Bool
IsOpen states.AfterMoment = false
IsOpen states.Done = false
IsOpen p = true

starts_at : (p : State) (now : ℤ) (s : Progress) (q : Rest p) → IsOpen p ≡ true → Starts (left_at p now (at p s) q)
starts_at states.Statement now s q is = statement_starts now s q
starts_at states.Function now s q is = tt
starts_at states.FunctionOpen now s q is = tt
starts_at states.Field now s q is = tt
starts_at states.FieldEnd now s q is = type_starts q.0 _ tt
starts_at states.FieldType now s q is = tt
starts_at states.FieldClose now s q is = tt
starts_at states.AfterColumn now s q is = alias_starts q.0 _ (select_starts now s _ q.1.0 q.1.1)
starts_at states.Alias now s q is = tt
starts_at states.AfterAlias now s q is = select_starts now s _ q.0 q.1
starts_at states.Measurement now s q is = source_starts q.0 _
starts_at states.AfterMeasurement now s q is = filter_starts now s _ q.0 q.1
starts_at states.Term now s q is = cond_starts now _ q.0 _
starts_at states.TagEnd now s q is = tag_starts q.0 _ tt
starts_at states.TagType now s q is = tt
starts_at states.TagSign now s q is = tt
starts_at states.TagValue now s q is = tt
starts_at states.AfterTerm now s q is = closing_starts now s _ q
starts_at states.NestedTerm now s q is = closing_starts now s _ q
starts_at states.TimeSign now s q is = tt
starts_at states.Moment now s q is = base_starts now q.0.base _
starts_at states.MomentMinus now s q is = tt
starts_at states.NowOpen now s q is = tt
starts_at states.NowClose now s q is = tt
starts_at states.MomentPlus now s q is = tt
starts_at states.MomentLess now s q is = tt
starts_at states.GroupBy now s q is = tt
starts_at states.Item now s q is = dimension_starts (meaning s.builder) q.0 _
starts_at states.TimeOpen now s q is = tt
starts_at states.Interval now s q is = tt
starts_at states.IntervalEnd now s q is = offset_starts q.0 _ tt
starts_at states.Offset now s q is = number_starts q.0.minus _ q.0.number _
starts_at states.OffsetMinus now s q is = tt
starts_at states.OffsetEnd now s q is = tt
starts_at states.AfterTag now s q is = tag_starts q.0 _ (dimensions_start now s _ q.1.0 q.1.1)
starts_at states.GroupTagType now s q is = tt
starts_at states.AfterItem now s q is = dimensions_start now s _ q.0 q.1
starts_at states.FillOpen now s q is = tt
starts_at states.FillOption now s q is = option_starts q.0 _
starts_at states.FillMinus now s q is = tt
starts_at states.FillClose now s q is = tt
starts_at states.AfterFill now s q is = ending_starts now s _ q
starts_at states.AfterMoment now s q is = absurd cc
starts_at states.Done now s q is = absurd cc

-- ---- where the tokens end

stands_by : (s : Progress) (reach : Reach) → reach ≡ Within → Stands reach s
stands_by s reach e = subst (λ (r : Reach). Stands r s) (sym e) tt

moment_stands_by : (now : ℤ) (s : Progress) (q : Closing) (reach : Reach) (o : Option Fault) → moment_fault s ≡ o
    → ReadsTokens (left_at states.AfterMoment now (at states.AfterMoment s) ([], q)) [] reach → Stands reach (at states.AfterMoment s)
moment_stands_by now s q reach None valid v =
    stands_by (at states.AfterMoment s) reach (within (left_closing now s (meaning (bounding s)) q) reach (closing_starts now s _ q) (passed (moment_fault s) _ [] reach valid v))
moment_stands_by now s q reach (Some f) invalid v =
    subst (λ (r : Reach). Stands r (at states.AfterMoment s)) (sym ((failed (moment_fault s) _ [] reach f invalid v).1)) ((unsettled_back s f invalid).1)

moment_stands : (now : ℤ) (s : Progress) (cs : List Change) (q : Closing) (reach : Reach)
    → ReadsTokens (left_at states.AfterMoment now (at states.AfterMoment s) (cs, q)) [] reach → Stands reach (at states.AfterMoment s)
moment_stands now s [] q reach v = moment_stands_by now s q reach (moment_fault s) refl v
moment_stands now s (c ∷ cs) q reach v = stands_by (at states.AfterMoment s) reach v.0

stands_at : (p : State) (now : ℤ) (s : Progress) (q : Rest p) (reach : Reach) → ReadsTokens (left_at p now (at p s) q) [] reach → Stands reach (at p s)
stands_at states.AfterMoment now s q reach v = moment_stands now s q.0 q.1 reach v
stands_at states.Done now s q reach v = subst (λ (r : Reach). Stands r (at states.Done s)) (sym v) refl
stands_at p now s q reach v = stands_by (at p s) reach (within (left_at p now (at p s) q) reach (starts_at p now s q refl) v)

pub stands : (now : ℤ) (s : Progress) (q : Rest s.state) (reach : Reach) → ReadsTokens (left now s q) [] reach → Stands reach s
stands now s q reach v = stands_at s.state now s q reach v
