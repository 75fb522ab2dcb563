-- Answers
pub mod AnswersLaws
pub mod GroupsInOrder
pub mod BucketsInRange
pub mod WorkedAnswers
-- Fills
pub mod FillsLaws
-- Queries: the cells of a rule in the rows of a query
pub mod Boundaries
pub mod CellsInRows
