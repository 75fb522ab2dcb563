-- The rests at each state: the part of a tree after it, with its tokens and the queries of its statements.
use Rattle.std.proofs.Common.{◌≡◌, ℕ, ℤ, pos, ◌+◌, ◌<◌, List, [], ◌∷◌, ◌++◌, map, Bool, true, false, Option, Some, None, Result, Ok}
use Rattle.std.specs.Prelude.{codes, ⊤}
use Rattle.std.specs.Option.{unwrap_or}
use Rattle.ts_core.specs.facts.Facts.{Text}
use Rattle.ts_core.specs.declared.queries.value.Function.{Function}
use Rattle.ts_core.specs.declared.queries.fill.Fill.TheVariants as fills
use Rattle.ts_core.specs.declared.aggregates.bucket.Buckets.{Buckets}
use Rattle.ts_ql.specs.declared.moment.Comparison.{Comparison}
use Rattle.ts_ql.specs.declared.state.State.{State}
use Rattle.ts_ql.specs.declared.state.State.TheVariants as states
use Rattle.ts_ql.specs.declared.token.Kind.TheVariants as kinds
use Rattle.ts_ql.specs.QueryFaults.{Fault}
use Rattle.ts_ql.specs.Grammar.{Keyword, Word, Name, Of, Item, Any, This, Examine, FieldType, Call, FromClause, Measure, Duration, Change, Instant, Cond, Signed, Dimension, GroupBy, FillOption, Statement, Ending}
use Rattle.ts_ql.specs.Builders.{meaning, empty_builder}
use Rattle.ts_ql.specs.Ranges.{bounded}
use Rattle.ts_ql.specs.Literals.{literal}
use Rattle.ts_ql.specs.Meanings.{field_after, projection_of, after_call, after_calls, after_from, total_after, changed_all, instant_value, after_cond, after_filter, buckets_of, offset_by, after_dimension, after_dimensions, after_group, fill_of, after_fill, statement_meaning, ending_queries}
use Rattle.ts_ql.specs.Reading.{Progress}
use Rattle.ts_ql.specs.Selects.{Select, moved}
use Rattle.ts_ql.specs.Productions.{field_fault, literal_fault, interval_fault, change_fault, type_word, spell_type, spell_alias, spell_call, spell_calls, spell_from, kind_of_measure, spell_changes, spell_instant, kind_of_comparison, spell_tag_type, equality, spell_cond, spell_filter, spell_signed, spell_offset, spell_dimension, spell_dimensions, spell_group, spell_option, spell_fill, spell_statement, spell_ending}
use Rattle.ts_ql.specs.Statements.{Meaning}
use Rattle.ts_ql.specs.Tokens.{Lexeme}
use Rattle.ts_ql.specs.Keywords.{named}

-- ---- the rests of a statement: after its groups, its conditions, its source, and an aggregate

abbrev pub FillTail : Type 0
FillTail = Option FillOption × Ending

abbrev pub DimensionTail : Type 0
DimensionTail = List Dimension × FillTail

abbrev pub GroupTail : Type 0
GroupTail = Option GroupBy × FillTail

abbrev pub FilterTail : Type 0
FilterTail = Option Cond × GroupTail

abbrev pub SelectTail : Type 0
SelectTail = List Call × (FromClause × FilterTail)

-- after a term: conditions in the same parentheses, and then those outside of them
pub data Closing : Type 0 where
  Outside : List Cond → GroupTail → Closing
  Inside : List Cond → Closing → Closing

-- the number of open parentheses
abbrev pub levels : Closing → ℕ
levels (Outside cs tail) = 0
levels (Inside cs closing) = levels closing + 1

abbrev pub after_conds : ℤ → Meaning → List Cond → Meaning
after_conds now p [] = p
after_conds now p (c ∷ cs) = after_conds now (after_cond now p c) cs

abbrev pub spell_conds : ℤ → ℕ → List Cond → List Item → List Item
spell_conds now depth [] rest = rest
spell_conds now depth (c ∷ cs) rest = Any (Keyword (codes "and")) ∷ spell_cond now depth c (spell_conds now depth cs rest)

-- ---- tokens of the rests of a statement, which is the `n`th and begins at `start`

abbrev pub left_ending : ℤ → Progress → Meaning → Ending → List Item
left_ending now s p ending = spell_ending now s.count s.start p ending

abbrev pub left_fill : ℤ → Progress → Meaning → FillTail → List Item
left_fill now s p tail = spell_fill tail.0 (left_ending now s (after_fill p tail.0) tail.1)

abbrev pub left_dimensions : ℤ → Progress → Meaning → DimensionTail → List Item
left_dimensions now s p tail = spell_dimensions p tail.0 (left_fill now s (after_dimensions p tail.0) tail.1)

abbrev pub left_group : ℤ → Progress → Meaning → GroupTail → List Item
left_group now s p tail = spell_group p tail.0 (left_fill now s (after_group p tail.0) tail.1)

abbrev pub left_filter : ℤ → Progress → Meaning → FilterTail → List Item
left_filter now s p tail = spell_filter now tail.0 (left_group now s (after_filter now p tail.0) tail.1)

abbrev pub left_source : ℤ → Progress → Meaning → FromClause × FilterTail → List Item
left_source now s p tail = spell_from tail.0 (left_filter now s (after_from p tail.0) tail.1)

abbrev pub left_select : ℤ → Progress → Meaning → SelectTail → List Item
left_select now s p tail = spell_calls p tail.0 (Any (Keyword (codes "from")) ∷ left_source now s (after_calls p tail.0) tail.1)

abbrev pub left_closing : ℤ → Progress → Meaning → Closing → List Item
left_closing now s p (Outside cs tail) = spell_conds now 0 cs (left_group now s (after_conds now p cs) tail)
left_closing now s p (Inside cs closing) =
    spell_conds now (levels closing + 1) cs (Any (Of kinds.RightParen) ∷ left_closing now s (after_conds now p cs) closing)

-- ---- queries of the rests of a statement

abbrev pub said_fill : ℤ → Progress → Meaning → FillTail → List (Result Select Fault)
said_fill now s p tail = ending_queries now s.start (after_fill p tail.0) tail.1

abbrev pub said_dimensions : ℤ → Progress → Meaning → DimensionTail → List (Result Select Fault)
said_dimensions now s p tail = said_fill now s (after_dimensions p tail.0) tail.1

abbrev pub said_group : ℤ → Progress → Meaning → GroupTail → List (Result Select Fault)
said_group now s p tail = said_fill now s (after_group p tail.0) tail.1

abbrev pub said_filter : ℤ → Progress → Meaning → FilterTail → List (Result Select Fault)
said_filter now s p tail = said_group now s (after_filter now p tail.0) tail.1

abbrev pub said_source : ℤ → Progress → Meaning → FromClause × FilterTail → List (Result Select Fault)
said_source now s p tail = said_filter now s (after_from p tail.0) tail.1

abbrev pub said_select : ℤ → Progress → Meaning → SelectTail → List (Result Select Fault)
said_select now s p tail = said_source now s (after_calls p tail.0) tail.1

abbrev pub said_closing : ℤ → Progress → Meaning → Closing → List (Result Select Fault)
said_closing now s p (Outside cs tail) = said_group now s (after_conds now p cs) tail
said_closing now s p (Inside cs closing) = said_closing now s (after_conds now p cs) closing

-- ---- the rest at each state

-- from inside an aggregate on
abbrev pub ClosedTail : Type 0
ClosedTail = Option Lexeme × SelectTail

abbrev pub Rest : State → Type 0
Rest states.Statement = Option (Statement × Ending)
Rest states.Function = Call × SelectTail
Rest states.FunctionOpen = Lexeme × (Option FieldType × ClosedTail)
Rest states.Field = Lexeme × (Option FieldType × ClosedTail)
Rest states.FieldEnd = Option FieldType × ClosedTail
Rest states.FieldType = FieldType × ClosedTail
Rest states.FieldClose = ClosedTail
Rest states.AfterColumn = ClosedTail
Rest states.Alias = Lexeme × SelectTail
Rest states.AfterAlias = SelectTail
Rest states.Measurement = FromClause × FilterTail
Rest states.AfterMeasurement = FilterTail
Rest states.Term = Cond × Closing
Rest states.TagEnd = Bool × (Bool × (Lexeme × Closing))
Rest states.TagType = Bool × (Lexeme × Closing)
Rest states.TagSign = Bool × (Lexeme × Closing)
Rest states.TagValue = Lexeme × Closing
Rest states.AfterTerm = Closing
Rest states.NestedTerm = Closing
Rest states.TimeSign = Comparison × (Instant × Closing)
Rest states.Moment = Instant × Closing
Rest states.MomentMinus = Measure × (Lexeme × (List Change × Closing))
Rest states.NowOpen = List Change × Closing
Rest states.NowClose = List Change × Closing
Rest states.AfterMoment = List Change × Closing
Rest states.MomentPlus = Lexeme × (List Change × Closing)
Rest states.MomentLess = Lexeme × (List Change × Closing)
Rest states.GroupBy = Dimension × DimensionTail
Rest states.Item = Dimension × DimensionTail
Rest states.TimeOpen = Lexeme × (Option Signed × DimensionTail)
Rest states.Interval = Lexeme × (Option Signed × DimensionTail)
Rest states.IntervalEnd = Option Signed × DimensionTail
Rest states.Offset = Signed × DimensionTail
Rest states.OffsetMinus = Lexeme × DimensionTail
Rest states.OffsetEnd = DimensionTail
Rest states.AfterTag = Bool × DimensionTail
Rest states.GroupTagType = DimensionTail
Rest states.AfterItem = DimensionTail
Rest states.FillOpen = FillOption × Ending
Rest states.FillOption = FillOption × Ending
Rest states.FillMinus = Lexeme × Ending
Rest states.FillClose = Ending
Rest states.AfterFill = Ending
Rest states.Done = ⊤

-- ---- the meaning of a statement, extended by the rest of a clause

abbrev pub with_call_field : Meaning → Lexeme → Meaning
with_call_field p l = record p { field = field_after p.field l }

abbrev pub with_column : Meaning → Function → Option Lexeme → Meaning
with_column p f alias = record p { columns = p.columns ++ projection_of f alias ∷ [] }

abbrev pub with_match : Meaning → Text → Bool → Lexeme → Meaning
with_match p tag negated value = record p { conditions = p.conditions ++ record { tag = tag; value = named value; negated = negated } ∷ [] }

abbrev pub with_range : Meaning → Comparison → ℤ → Meaning
with_range p c total = record p { range = bounded c total p.range }

abbrev pub with_buckets : Meaning → Option Buckets → Meaning
with_buckets p b = record p { buckets = b }

abbrev pub with_option : Meaning → FillOption → Meaning
with_option p option = record p { fill = fill_of option }

-- ---- tokens of the rest at each state

abbrev pub left_closed : ℤ → Progress → Meaning → ClosedTail → List Item
left_closed now s p tail = spell_alias tail.0 (left_select now s (with_column p s.builder.selection.function tail.0) tail.1)

abbrev pub left_typed : ℤ → Progress → Meaning → Option FieldType × ClosedTail → List Item
left_typed now s p tail = spell_type tail.0 (Any (Of kinds.RightParen) ∷ left_closed now s p tail.1)

abbrev pub left_field : ℤ → Progress → Meaning → Lexeme × (Option FieldType × ClosedTail) → List Item
left_field now s p tail = This Name tail.0 ∷ Examine (field_fault p.field tail.0) ∷ left_typed now s (with_call_field p tail.0) tail.1

-- the changes of a moment of that total
abbrev pub left_changes : ℤ → Progress → ℕ → ℤ → List Change × Closing → List Item
left_changes now s first total tail =
    spell_changes first total tail.0 (left_closing now s (with_range (meaning s.builder) s.builder.moment.comparison (changed_all total tail.0)) tail.1)

abbrev pub left_change : ℤ → Progress → Bool → Lexeme × (List Change × Closing) → List Item
left_change now s less tail =
    This (Of kinds.Duration) tail.0 ∷ Examine (change_fault (record { less = less; by = tail.0 }))
    ∷ left_changes now s s.builder.moment.first (total_after s.builder.moment.total (record { less = less; by = tail.0 })) tail.1

abbrev pub left_instant : ℤ → Progress → Comparison → Instant × Closing → List Item
left_instant now s c tail = spell_instant now tail.0 (left_closing now s (with_range (meaning s.builder) c (instant_value now tail.0)) tail.1)

abbrev pub left_value : ℤ → Progress → Bool → Lexeme × Closing → List Item
left_value now s negated tail =
    This (Of kinds.StringLiteral) tail.0 ∷ left_closing now s (with_match (meaning s.builder) s.builder.filter.tag negated tail.0) tail.1

abbrev pub left_sign : ℤ → Progress → Bool × (Lexeme × Closing) → List Item
left_sign now s tail = Any (Of (equality tail.0)) ∷ left_value now s tail.0 tail.1

abbrev pub left_item : ℤ → Progress → Dimension × DimensionTail → List Item
left_item now s tail = spell_dimension (meaning s.builder) tail.0 (left_dimensions now s (after_dimension (meaning s.builder) tail.0) tail.1)

abbrev pub left_interval : ℤ → Progress → Lexeme × (Option Signed × DimensionTail) → List Item
left_interval now s tail =
    This (Of kinds.Duration) tail.0 ∷ Examine (interval_fault tail.0)
    ∷ spell_offset tail.1.0 (Any (Of kinds.RightParen) ∷ left_dimensions now s (with_buckets (meaning s.builder) (offset_by (buckets_of (literal false tail.0.text)) tail.1.0)) tail.1.1)

abbrev pub left_option : ℤ → Progress → FillOption × Ending → List Item
left_option now s tail = spell_option tail.0 (Any (Of kinds.RightParen) ∷ left_ending now s (with_option (meaning s.builder) tail.0) tail.1)

abbrev pub left_statement : ℤ → Progress → Option (Statement × Ending) → List Item
left_statement now s None = Any (Of kinds.End) ∷ []
left_statement now s (Some p) = spell_statement now s.count p.0 (spell_ending now (s.count + 1) p.0.select.start (statement_meaning now p.0) p.1)

abbrev pub left_at : (p : State) → ℤ → Progress → Rest p → List Item
left_at states.Statement now s r = left_statement now s r
left_at states.Function now s r = spell_call (meaning s.builder).field r.0 (left_select now s (after_call (meaning s.builder) r.0) r.1)
left_at states.FunctionOpen now s r = Any (Of kinds.LeftParen) ∷ left_field now s (meaning s.builder) r
left_at states.Field now s r = left_field now s (meaning s.builder) r
left_at states.FieldEnd now s r = left_typed now s (meaning s.builder) r
left_at states.FieldType now s r = Any (Word (type_word r.0)) ∷ Any (Of kinds.RightParen) ∷ left_closed now s (meaning s.builder) r.1
left_at states.FieldClose now s r = Any (Of kinds.RightParen) ∷ left_closed now s (meaning s.builder) r
left_at states.AfterColumn now s r = left_closed now s (meaning s.builder) r
left_at states.Alias now s r = This Name r.0 ∷ left_select now s (with_column (meaning s.builder) s.builder.selection.function (Some r.0)) r.1
left_at states.AfterAlias now s r = left_select now s (meaning s.builder) r
left_at states.Measurement now s r = left_source now s (meaning s.builder) r
left_at states.AfterMeasurement now s r = left_filter now s (meaning s.builder) r
left_at states.Term now s r = spell_cond now (levels r.1) r.0 (left_closing now s (after_cond now (meaning s.builder) r.0) r.1)
left_at states.TagEnd now s r = spell_tag_type r.0 (left_sign now s r.1)
left_at states.TagType now s r = Any (Word (codes "tag")) ∷ left_sign now s r
left_at states.TagSign now s r = left_sign now s r
left_at states.TagValue now s r = left_value now s s.builder.filter.negated r
left_at states.AfterTerm now s r = left_closing now s (meaning s.builder) r
left_at states.NestedTerm now s r = left_closing now s (meaning s.builder) r
left_at states.TimeSign now s r = Any (Of (kind_of_comparison r.0)) ∷ left_instant now s r.0 r.1
left_at states.Moment now s r = left_instant now s s.builder.moment.comparison r
left_at states.MomentMinus now s r =
    This (Of (kind_of_measure r.0)) r.1.0 ∷ Examine (literal_fault s.builder.moment.first (literal true r.1.0.text))
    ∷ left_changes now s s.builder.moment.first (unwrap_or (literal true r.1.0.text) (pos 0)) r.1.1
left_at states.NowOpen now s r = Any (Of kinds.LeftParen) ∷ Any (Of kinds.RightParen) ∷ left_changes now s s.builder.moment.first now r
left_at states.NowClose now s r = Any (Of kinds.RightParen) ∷ left_changes now s s.builder.moment.first now r
left_at states.AfterMoment now s r = left_changes now s s.builder.moment.first s.builder.moment.total r
left_at states.MomentPlus now s r = left_change now s false r
left_at states.MomentLess now s r = left_change now s true r
left_at states.GroupBy now s r = Any (Keyword (codes "by")) ∷ left_item now s r
left_at states.Item now s r = left_item now s r
left_at states.TimeOpen now s r = Any (Of kinds.LeftParen) ∷ left_interval now s r
left_at states.Interval now s r = left_interval now s r
left_at states.IntervalEnd now s r =
    spell_offset r.0 (Any (Of kinds.RightParen) ∷ left_dimensions now s (with_buckets (meaning s.builder) (offset_by (meaning s.builder).buckets r.0)) r.1)
left_at states.Offset now s r =
    spell_signed Duration r.0 (Any (Of kinds.RightParen) ∷ left_dimensions now s (with_buckets (meaning s.builder) (offset_by (meaning s.builder).buckets (Some r.0))) r.1)
left_at states.OffsetMinus now s r =
    This (Of kinds.Duration) r.0 ∷ Examine (literal_fault s.builder.groups.first (literal true r.0.text))
    ∷ Any (Of kinds.RightParen) ∷ left_dimensions now s (with_buckets (meaning s.builder) (moved (unwrap_or (literal true r.0.text) (pos 0)) (meaning s.builder).buckets)) r.1
left_at states.OffsetEnd now s r = Any (Of kinds.RightParen) ∷ left_dimensions now s (meaning s.builder) r
left_at states.AfterTag now s r = spell_tag_type r.0 (left_dimensions now s (meaning s.builder) r.1)
left_at states.GroupTagType now s r = Any (Word (codes "tag")) ∷ left_dimensions now s (meaning s.builder) r
left_at states.AfterItem now s r = left_dimensions now s (meaning s.builder) r
left_at states.FillOpen now s r = Any (Of kinds.LeftParen) ∷ left_option now s r
left_at states.FillOption now s r = left_option now s r
left_at states.FillMinus now s r =
    This (Of kinds.Integer) r.0 ∷ Examine (literal_fault s.builder.filling.first (literal true r.0.text))
    ∷ Any (Of kinds.RightParen) ∷ left_ending now s (record (meaning s.builder) { fill = fills.Number (unwrap_or (literal true r.0.text) (pos 0)) }) r.1
left_at states.FillClose now s r = Any (Of kinds.RightParen) ∷ left_ending now s (meaning s.builder) r
left_at states.AfterFill now s r = left_ending now s (meaning s.builder) r
left_at states.Done now s r = []

-- ---- queries of the statements, with the rest at each state

abbrev pub said_closed : ℤ → Progress → Meaning → ClosedTail → List (Result Select Fault)
said_closed now s p tail = said_select now s (with_column p s.builder.selection.function tail.0) tail.1

abbrev pub said_changes : ℤ → Progress → ℤ → List Change × Closing → List (Result Select Fault)
said_changes now s total tail = said_closing now s (with_range (meaning s.builder) s.builder.moment.comparison (changed_all total tail.0)) tail.1

abbrev pub said_change : ℤ → Progress → Bool → Lexeme × (List Change × Closing) → List (Result Select Fault)
said_change now s less tail = said_changes now s (total_after s.builder.moment.total (record { less = less; by = tail.0 })) tail.1

abbrev pub said_instant : ℤ → Progress → Comparison → Instant × Closing → List (Result Select Fault)
said_instant now s c tail = said_closing now s (with_range (meaning s.builder) c (instant_value now tail.0)) tail.1

abbrev pub said_value : ℤ → Progress → Bool → Lexeme × Closing → List (Result Select Fault)
said_value now s negated tail = said_closing now s (with_match (meaning s.builder) s.builder.filter.tag negated tail.0) tail.1

abbrev pub said_item : ℤ → Progress → Dimension × DimensionTail → List (Result Select Fault)
said_item now s tail = said_dimensions now s (after_dimension (meaning s.builder) tail.0) tail.1

abbrev pub said_interval : ℤ → Progress → Lexeme × (Option Signed × DimensionTail) → List (Result Select Fault)
said_interval now s tail =
    said_dimensions now s (with_buckets (meaning s.builder) (offset_by (buckets_of (literal false tail.0.text)) tail.1.0)) tail.1.1

abbrev pub said_ending : ℤ → Progress → Meaning → Ending → List (Result Select Fault)
said_ending now s p ending = ending_queries now s.start p ending

abbrev pub said_statement : ℤ → Option (Statement × Ending) → List (Result Select Fault)
said_statement now None = []
said_statement now (Some p) = ending_queries now p.0.select.start (statement_meaning now p.0) p.1

abbrev pub said_at : (p : State) → ℤ → Progress → Rest p → List (Result Select Fault)
said_at states.Statement now s r = said_statement now r
said_at states.Function now s r = said_select now s (after_call (meaning s.builder) r.0) r.1
said_at states.FunctionOpen now s r = said_closed now s (with_call_field (meaning s.builder) r.0) r.1.1
said_at states.Field now s r = said_closed now s (with_call_field (meaning s.builder) r.0) r.1.1
said_at states.FieldEnd now s r = said_closed now s (meaning s.builder) r.1
said_at states.FieldType now s r = said_closed now s (meaning s.builder) r.1
said_at states.FieldClose now s r = said_closed now s (meaning s.builder) r
said_at states.AfterColumn now s r = said_closed now s (meaning s.builder) r
said_at states.Alias now s r = said_select now s (with_column (meaning s.builder) s.builder.selection.function (Some r.0)) r.1
said_at states.AfterAlias now s r = said_select now s (meaning s.builder) r
said_at states.Measurement now s r = said_source now s (meaning s.builder) r
said_at states.AfterMeasurement now s r = said_filter now s (meaning s.builder) r
said_at states.Term now s r = said_closing now s (after_cond now (meaning s.builder) r.0) r.1
said_at states.TagEnd now s r = said_value now s r.1.0 r.1.1
said_at states.TagType now s r = said_value now s r.0 r.1
said_at states.TagSign now s r = said_value now s r.0 r.1
said_at states.TagValue now s r = said_value now s s.builder.filter.negated r
said_at states.AfterTerm now s r = said_closing now s (meaning s.builder) r
said_at states.NestedTerm now s r = said_closing now s (meaning s.builder) r
said_at states.TimeSign now s r = said_instant now s r.0 r.1
said_at states.Moment now s r = said_instant now s s.builder.moment.comparison r
said_at states.MomentMinus now s r = said_changes now s (unwrap_or (literal true r.1.0.text) (pos 0)) r.1.1
said_at states.NowOpen now s r = said_changes now s now r
said_at states.NowClose now s r = said_changes now s now r
said_at states.AfterMoment now s r = said_changes now s s.builder.moment.total r
said_at states.MomentPlus now s r = said_change now s false r
said_at states.MomentLess now s r = said_change now s true r
said_at states.GroupBy now s r = said_item now s r
said_at states.Item now s r = said_item now s r
said_at states.TimeOpen now s r = said_interval now s r
said_at states.Interval now s r = said_interval now s r
said_at states.IntervalEnd now s r = said_dimensions now s (with_buckets (meaning s.builder) (offset_by (meaning s.builder).buckets r.0)) r.1
said_at states.Offset now s r = said_dimensions now s (with_buckets (meaning s.builder) (offset_by (meaning s.builder).buckets (Some r.0))) r.1
said_at states.OffsetMinus now s r =
    said_dimensions now s (with_buckets (meaning s.builder) (moved (unwrap_or (literal true r.0.text) (pos 0)) (meaning s.builder).buckets)) r.1
said_at states.OffsetEnd now s r = said_dimensions now s (meaning s.builder) r
said_at states.AfterTag now s r = said_dimensions now s (meaning s.builder) r.1
said_at states.GroupTagType now s r = said_dimensions now s (meaning s.builder) r
said_at states.AfterItem now s r = said_dimensions now s (meaning s.builder) r
said_at states.FillOpen now s r = said_ending now s (with_option (meaning s.builder) r.0) r.1
said_at states.FillOption now s r = said_ending now s (with_option (meaning s.builder) r.0) r.1
said_at states.FillMinus now s r = said_ending now s (record (meaning s.builder) { fill = fills.Number (unwrap_or (literal true r.0.text) (pos 0)) }) r.1
said_at states.FillClose now s r = said_ending now s (meaning s.builder) r
said_at states.AfterFill now s r = said_ending now s (meaning s.builder) r
said_at states.Done now s r = []

-- the tokens of a rest, and the queries of all statements with it
abbrev pub left : ℤ → (s : Progress) → Rest s.state → List Item
left now s r = left_at s.state now s r

abbrev pub all_said : ℤ → (s : Progress) → Rest s.state → List (Result Select Fault)
all_said now s r = map Ok s.queries ++ said_at s.state now s r

-- ---- invariants of each state

-- no parenthesis is open before WHERE and after it; a statement begins with nothing read
abbrev pub SoundAt : State → Progress → Type 0
SoundAt states.Statement s = s.builder ≡ empty_builder
SoundAt states.Function s = s.builder.filter.depth ≡ 0
SoundAt states.FunctionOpen s = s.builder.filter.depth ≡ 0
SoundAt states.Field s = s.builder.filter.depth ≡ 0
SoundAt states.FieldEnd s = s.builder.filter.depth ≡ 0
SoundAt states.FieldType s = s.builder.filter.depth ≡ 0
SoundAt states.FieldClose s = s.builder.filter.depth ≡ 0
SoundAt states.AfterColumn s = s.builder.filter.depth ≡ 0
SoundAt states.Alias s = s.builder.filter.depth ≡ 0
SoundAt states.AfterAlias s = s.builder.filter.depth ≡ 0
SoundAt states.Measurement s = s.builder.filter.depth ≡ 0
SoundAt states.AfterMeasurement s = s.builder.filter.depth ≡ 0
SoundAt states.AfterTerm s = s.builder.filter.depth ≡ 0
SoundAt states.NestedTerm s = 0 < s.builder.filter.depth
SoundAt state s = ⊤

abbrev pub Sound : Progress → Type 0
Sound s = SoundAt s.state s

-- the text has a statement
abbrev pub HasStatement : ℕ → Option (Statement × Ending) → Type 0
HasStatement count None = 0 < count
HasStatement count (Some p) = ⊤

-- the rest closes as many parentheses as are open
abbrev pub SuitsAt : (p : State) → Progress → Rest p → Type 0
SuitsAt states.Statement s r = HasStatement s.count r
SuitsAt states.Term s r = s.builder.filter.depth ≡ levels r.1
SuitsAt states.TagEnd s r = s.builder.filter.depth ≡ levels r.1.1.1
SuitsAt states.TagType s r = s.builder.filter.depth ≡ levels r.1.1
SuitsAt states.TagSign s r = s.builder.filter.depth ≡ levels r.1.1
SuitsAt states.TagValue s r = s.builder.filter.depth ≡ levels r.1
SuitsAt states.AfterTerm s r = s.builder.filter.depth ≡ levels r
SuitsAt states.NestedTerm s r = s.builder.filter.depth ≡ levels r
SuitsAt states.TimeSign s r = s.builder.filter.depth ≡ levels r.1.1
SuitsAt states.Moment s r = s.builder.filter.depth ≡ levels r.1
SuitsAt states.MomentMinus s r = s.builder.filter.depth ≡ levels r.1.1.1
SuitsAt states.NowOpen s r = s.builder.filter.depth ≡ levels r.1
SuitsAt states.NowClose s r = s.builder.filter.depth ≡ levels r.1
SuitsAt states.AfterMoment s r = s.builder.filter.depth ≡ levels r.1
SuitsAt states.MomentPlus s r = s.builder.filter.depth ≡ levels r.1.1
SuitsAt states.MomentLess s r = s.builder.filter.depth ≡ levels r.1.1
SuitsAt state s r = ⊤

abbrev pub Suits : (s : Progress) → Rest s.state → Type 0
Suits s r = SuitsAt s.state s r
