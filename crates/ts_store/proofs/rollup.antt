-- Rollups
pub mod RollupsGrow
pub mod RollupLemmas
-- LivePoints
pub mod RollupSeriesPoints
-- Rollups: the cells of points
pub mod CellsCreated
pub mod RulesFilled
-- ChangedLists
pub mod ChangedListsLemmas
-- BucketsTaken
pub mod BucketsTakenLemmas
