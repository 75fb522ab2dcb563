-- The rollup of a rule: rollup series with their columns.
-- used only by models and proofs of the code
pub mod ColumnLists
pub mod Rollups
pub mod LivePoints
pub mod PointsFilled
pub mod ChangedLists
pub mod BucketsTaken
