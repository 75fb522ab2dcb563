-- StoreLaws, StoreMoves: transitions of a store and the histories that it represents
pub mod EachRule
pub mod LineStands
pub mod MovesStand
pub mod LivesKept
pub mod LiveWays
pub mod PutCells
pub mod StepStands
pub mod StoreNew
pub mod Freezing
-- RuleMoves
pub mod RulesMove
-- Runs
pub mod LeftOnData
