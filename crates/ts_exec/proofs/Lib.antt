-- Executions, Answered: the result over a view is the answer over all points ever accepted
mod Given
mod Fresh
mod Linked
mod Shares
mod Entries
-- Executions, Selections: the values that a query selects
mod PartsTaken
-- JoinedPieces: adjacent pieces of one source as one
mod Joining
mod JoinedAnswers
-- ReducedConditions: equal conditions once
mod Reduced
-- SeriesTests: a series is tested by its own tags
mod Tested
-- Executions, Shares: the number of points of a plan over a view
mod PointCounts
mod CountSteps
-- GroupTables: the cells and points of a piece
mod Selected
mod Walked
mod NamedRules
mod Widths
-- RowParts: buckets of a row, runs of points in one
mod Spans
mod NextBuckets
mod Halves
mod Folded
mod Runs
mod Blocks
mod Counted
-- Slots, Searches: the groups in order
mod Slotted
-- GroupValues: values of a group's tags without the empty ones
mod GroupValuesLemmas
mod SetSteps
-- Fillings
pub mod FillSteps
