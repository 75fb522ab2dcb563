-- Planning: the planner's result
pub mod Planned
pub mod Plannable
pub mod Spellings
pub mod TooMany
pub mod RuleNumbers
-- Steps: the sweep and the walk give the plan
pub mod StepPlans
pub mod StepWalks
pub mod WalkSteps
pub mod Pruning
pub mod StepMoves
pub mod Searches
-- Steps: the list of all steps
pub mod Scans
pub mod BucketStarts
pub mod ListLemmas
-- Joins: steps merged into pieces
pub mod BucketJoins
