-- OpenRuns, CellCounts
pub mod WaitingColumns
pub mod RunsGoOn
pub mod RunsStay
-- RollupSteps: the steps of a run
pub mod RollupMoves
pub mod PointsFrozen
pub mod BatchesLeft
pub mod BucketsMoved
