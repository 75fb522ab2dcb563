-- Retention runs, whole and in steps.
-- cited by public contracts and laws
pub mod WholeRuns
-- used only by models and proofs of the code
pub mod RollupSteps
pub mod PointMoves
pub mod OpenRuns
