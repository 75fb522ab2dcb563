-- The meaning of a text by the grammar: the theorems, then their lemmas.
pub mod TextLaws
pub mod GrammarLaws
pub mod MachineAnswers
pub mod MachineLeads
pub mod ClauseLeads
pub mod ClauseRuns
pub mod SelectRuns
pub mod WhereRuns
pub mod MomentRuns
pub mod GroupRuns
pub mod FillRuns
pub mod EndRuns
pub mod Completions
pub mod Steps
pub mod Rests
pub mod StandLemmas
pub mod CountLemmas
pub mod StepLemmas
pub mod RunLemmas
pub mod KeywordLemmas
pub mod TokenEnds
pub mod ReadingLemmas
-- Columns of a statement, read once more from its text.
pub mod ColumnLemmas
pub mod SelectsLemmas
-- Values of literals, and ends of durations.
pub mod DurationEnds
pub mod MagnitudeLaws
pub mod LiteralLemmas
pub mod DateLemmas
-- Sums of moments fit 128 bits.
pub mod SumBounds
pub mod DateBounds
-- Tokens, clauses, statements, and the texts of faults.
pub mod LexingLemmas
pub mod GroupLemmas
pub mod StatementLemmas
pub mod BucketLimitsLemmas
pub mod QueryLemmas
pub mod CountingLemmas
