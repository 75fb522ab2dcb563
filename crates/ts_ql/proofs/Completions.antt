-- Completions of a text, from each state.
use Rattle.std.proofs.Common.{◌≡◌, ℕ, zero, suc, ℤ, [], ◌∷◌, true, false, Some, None, refl, arith}
use Rattle.std.specs.Prelude.{codes}
use Rattle.ts_core.specs.facts.Facts.{Text}
use Rattle.ts_ql.specs.declared.moment.Comparison.TheVariants as comparisons
use Rattle.ts_ql.specs.declared.state.State.{State}
use Rattle.ts_ql.specs.declared.state.State.TheVariants as states
use Rattle.ts_ql.specs.declared.token.Kind.{Kind}
use Rattle.ts_ql.specs.declared.token.Kind.TheVariants as kinds
use Rattle.ts_ql.specs.Grammar.{Of, Is, Field, Call, FromClause, Measurement, Count, Number, Instant, Match, ByTag, NullOption, Statement, Stop}
use Rattle.ts_ql.specs.Laws.{CanBeWritten, Within, ReadsTokens}
use Rattle.ts_ql.specs.Reading.{Progress, is_done}
use Rattle.ts_ql.specs.Statements.{Meaning}
use Rattle.ts_ql.specs.Tokens.{Lexeme}
use Rattle.ts_ql.specs.Keywords.{is_time_column}
use Rattle.ts_ql.proofs.Rests.{Rest, FillTail, DimensionTail, FilterTail, SelectTail, Closing, Outside, Inside, levels, left_closing, left_at, left, SuitsAt, Suits}

-- ---- tokens

abbrev pub token : Kind → Text → Lexeme
token kind text = record { kind = kind; start = 0; end = 0; raw = text; text = text }

abbrev pub mark : Kind → Lexeme
mark kind = token kind []

abbrev pub name : Lexeme
name = token kinds.Word (codes "x")

abbrev pub key : Text → Lexeme
key word = token kinds.Keyword word

-- ---- the shortest rests

abbrev pub fill_tail : FillTail
fill_tail = (None, Stop)

abbrev pub dimension_tail : DimensionTail
dimension_tail = ([], fill_tail)

abbrev pub filter_tail : FilterTail
filter_tail = (None, (None, fill_tail))

abbrev pub source_tail : FromClause × FilterTail
source_tail = (Measurement name, filter_tail)

abbrev pub select_tail : SelectTail
select_tail = ([], source_tail)

abbrev pub closing_of : ℕ → Closing
closing_of zero = Outside [] (None, fill_tail)
closing_of (suc n) = Inside [] (closing_of n)

pub closing_levels : (n : ℕ) → n ≡ levels (closing_of n)
closing_levels zero = refl
closing_levels (suc n) = let less : n ≡ levels (closing_of n) = closing_levels n in omega (arith, less)

abbrev pub aggregate : Call
aggregate = record { function = token kinds.Word (codes "count"); field = name; cast = None; alias = None }

abbrev pub statement : Statement
statement = record { select = key (codes "select"); first = aggregate; more = []; source = Measurement name; filter = None; group = None; fill = None }

abbrev pub instant : Instant
instant = record { base = Number Count (mark kinds.Integer); changes = [] }

-- ---- they can be written

abbrev pub IsMark : Kind → Type 0
IsMark kind = (t : Lexeme) × Is (Of kind) t

marked : (kind : Kind) → IsMark kind
marked kind = (mark kind, refl)

closing_written : (n : ℕ) (now : ℤ) (s : Progress) (p : Meaning) → CanBeWritten (left_closing now s p (closing_of n))
closing_written zero now s p = (marked kinds.End, tt)
closing_written (suc n) now s p = (marked kinds.RightParen, closing_written n now s p)

closing_reads : (n : ℕ) (now : ℤ) (s : Progress) (p : Meaning) → ReadsTokens (left_closing now s p (closing_of n)) [] Within
closing_reads zero now s p = (refl, (marked kinds.End, tt))
closing_reads (suc n) now s p = (refl, (marked kinds.RightParen, closing_written n now s p))

abbrev pub Completed : State → ℤ → Progress → Type 0
Completed p now s = (q : Rest p) × SuitsAt p s q × ReadsTokens (left_at p now s q) [] Within

completes_at : (p : State) (now : ℤ) (s : Progress) → is_done p ≡ false → Completed p now s
unfolding is_time_column
completes_at states.Statement now s e = (Some (statement, Stop), tt, (refl, ((refl, refl), (refl, (marked kinds.LeftParen, (refl, (marked kinds.RightParen, ((key (codes "from"), (refl, refl)), (refl, (marked kinds.End, tt))))))))))
completes_at states.Function now s e = ((aggregate, select_tail), tt, (refl, (refl, (marked kinds.LeftParen, (refl, (marked kinds.RightParen, ((key (codes "from"), (refl, refl)), (refl, (marked kinds.End, tt)))))))))
completes_at states.FunctionOpen now s e = ((name, (None, (None, select_tail))), tt, (refl, (marked kinds.LeftParen, (refl, (marked kinds.RightParen, ((key (codes "from"), (refl, refl)), (refl, (marked kinds.End, tt))))))))
completes_at states.Field now s e = ((name, (None, (None, select_tail))), tt, (refl, (refl, (marked kinds.RightParen, ((key (codes "from"), (refl, refl)), (refl, (marked kinds.End, tt)))))))
completes_at states.FieldEnd now s e = ((None, (None, select_tail)), tt, (refl, (marked kinds.RightParen, ((key (codes "from"), (refl, refl)), (refl, (marked kinds.End, tt))))))
completes_at states.FieldType now s e = ((Field, (None, select_tail)), tt, (refl, ((token kinds.Word (codes "field"), (refl, refl)), (marked kinds.RightParen, ((key (codes "from"), (refl, refl)), (refl, (marked kinds.End, tt)))))))
completes_at states.FieldClose now s e = ((None, select_tail), tt, (refl, (marked kinds.RightParen, ((key (codes "from"), (refl, refl)), (refl, (marked kinds.End, tt))))))
completes_at states.AfterColumn now s e = ((None, select_tail), tt, (refl, ((key (codes "from"), (refl, refl)), (refl, (marked kinds.End, tt)))))
completes_at states.Alias now s e = ((name, select_tail), tt, (refl, (refl, ((key (codes "from"), (refl, refl)), (refl, (marked kinds.End, tt))))))
completes_at states.AfterAlias now s e = (select_tail, tt, (refl, ((key (codes "from"), (refl, refl)), (refl, (marked kinds.End, tt)))))
completes_at states.Measurement now s e = (source_tail, tt, (refl, (refl, (marked kinds.End, tt))))
completes_at states.AfterMeasurement now s e = (filter_tail, tt, (refl, (marked kinds.End, tt)))
completes_at states.Term now s e = ((Match name false false (mark kinds.StringLiteral), (closing_of s.builder.filter.depth)), closing_levels s.builder.filter.depth, (refl, ((refl, refl), (marked kinds.Equals, (refl, closing_written s.builder.filter.depth now s _)))))
completes_at states.TagEnd now s e = ((false, (false, (mark kinds.StringLiteral, (closing_of s.builder.filter.depth)))), closing_levels s.builder.filter.depth, (refl, (marked kinds.Equals, (refl, closing_written s.builder.filter.depth now s _))))
completes_at states.TagType now s e = ((false, (mark kinds.StringLiteral, (closing_of s.builder.filter.depth))), closing_levels s.builder.filter.depth, (refl, ((token kinds.Word (codes "tag"), (refl, refl)), (marked kinds.Equals, (refl, closing_written s.builder.filter.depth now s _)))))
completes_at states.TagSign now s e = ((false, (mark kinds.StringLiteral, (closing_of s.builder.filter.depth))), closing_levels s.builder.filter.depth, (refl, (marked kinds.Equals, (refl, closing_written s.builder.filter.depth now s _))))
completes_at states.TagValue now s e = ((mark kinds.StringLiteral, (closing_of s.builder.filter.depth)), closing_levels s.builder.filter.depth, (refl, (refl, closing_written s.builder.filter.depth now s _)))
completes_at states.AfterTerm now s e = ((closing_of s.builder.filter.depth), closing_levels s.builder.filter.depth, closing_reads s.builder.filter.depth now s _)
completes_at states.NestedTerm now s e = ((closing_of s.builder.filter.depth), closing_levels s.builder.filter.depth, closing_reads s.builder.filter.depth now s _)
completes_at states.TimeSign now s e = ((comparisons.Equal, (instant, (closing_of s.builder.filter.depth))), closing_levels s.builder.filter.depth, (refl, (marked kinds.Equals, (refl, closing_written s.builder.filter.depth now s _))))
completes_at states.Moment now s e = ((instant, (closing_of s.builder.filter.depth)), closing_levels s.builder.filter.depth, (refl, (refl, closing_written s.builder.filter.depth now s _)))
completes_at states.MomentMinus now s e = ((Count, (mark kinds.Integer, ([], (closing_of s.builder.filter.depth)))), closing_levels s.builder.filter.depth, (refl, (refl, closing_written s.builder.filter.depth now s _)))
completes_at states.NowOpen now s e = (([], (closing_of s.builder.filter.depth)), closing_levels s.builder.filter.depth, (refl, (marked kinds.LeftParen, (marked kinds.RightParen, closing_written s.builder.filter.depth now s _))))
completes_at states.NowClose now s e = (([], (closing_of s.builder.filter.depth)), closing_levels s.builder.filter.depth, (refl, (marked kinds.RightParen, closing_written s.builder.filter.depth now s _)))
completes_at states.AfterMoment now s e = ((record { less = true; by = mark kinds.Duration } ∷ [], (closing_of s.builder.filter.depth)), closing_levels s.builder.filter.depth, (refl, (marked kinds.Minus, (refl, closing_written s.builder.filter.depth now s _))))
completes_at states.MomentPlus now s e = ((mark kinds.Duration, ([], (closing_of s.builder.filter.depth))), closing_levels s.builder.filter.depth, (refl, (refl, closing_written s.builder.filter.depth now s _)))
completes_at states.MomentLess now s e = ((mark kinds.Duration, ([], (closing_of s.builder.filter.depth))), closing_levels s.builder.filter.depth, (refl, (refl, closing_written s.builder.filter.depth now s _)))
completes_at states.GroupBy now s e = ((ByTag name false, dimension_tail), tt, (refl, ((key (codes "by"), (refl, refl)), ((refl, refl), (marked kinds.End, tt)))))
completes_at states.Item now s e = ((ByTag name false, dimension_tail), tt, (refl, ((refl, refl), (marked kinds.End, tt))))
completes_at states.TimeOpen now s e = ((mark kinds.Duration, (None, dimension_tail)), tt, (refl, (marked kinds.LeftParen, (refl, (marked kinds.RightParen, (marked kinds.End, tt))))))
completes_at states.Interval now s e = ((mark kinds.Duration, (None, dimension_tail)), tt, (refl, (refl, (marked kinds.RightParen, (marked kinds.End, tt)))))
completes_at states.IntervalEnd now s e = ((None, dimension_tail), tt, (refl, (marked kinds.RightParen, (marked kinds.End, tt))))
completes_at states.Offset now s e = ((record { minus = None; number = mark kinds.Duration }, dimension_tail), tt, (refl, (refl, (marked kinds.RightParen, (marked kinds.End, tt)))))
completes_at states.OffsetMinus now s e = ((mark kinds.Duration, dimension_tail), tt, (refl, (refl, (marked kinds.RightParen, (marked kinds.End, tt)))))
completes_at states.OffsetEnd now s e = (dimension_tail, tt, (refl, (marked kinds.RightParen, (marked kinds.End, tt))))
completes_at states.AfterTag now s e = ((false, dimension_tail), tt, (refl, (marked kinds.End, tt)))
completes_at states.GroupTagType now s e = (dimension_tail, tt, (refl, ((token kinds.Word (codes "tag"), (refl, refl)), (marked kinds.End, tt))))
completes_at states.AfterItem now s e = (dimension_tail, tt, (refl, (marked kinds.End, tt)))
completes_at states.FillOpen now s e = ((NullOption, Stop), tt, (refl, (marked kinds.LeftParen, ((token kinds.Word (codes "null"), (refl, refl)), (marked kinds.RightParen, (marked kinds.End, tt))))))
completes_at states.FillOption now s e = ((NullOption, Stop), tt, (refl, ((token kinds.Word (codes "null"), (refl, refl)), (marked kinds.RightParen, (marked kinds.End, tt)))))
completes_at states.FillMinus now s e = ((mark kinds.Integer, Stop), tt, (refl, (refl, (marked kinds.RightParen, (marked kinds.End, tt)))))
completes_at states.FillClose now s e = (Stop, tt, (refl, (marked kinds.RightParen, (marked kinds.End, tt))))
completes_at states.AfterFill now s e = (Stop, tt, (refl, (marked kinds.End, tt)))
completes_at states.Done now s e = absurd cc

pub completes : (now : ℤ) (s : Progress) → is_done s.state ≡ false → (q : Rest s.state) × Suits s q × ReadsTokens (left now s q) [] Within
completes now s e = completes_at s.state now s e
