-- Pieces, Faults: valid pieces cover the range
pub mod Covered
pub mod PiecesTogether
pub mod Validity
pub mod WorkedPieces
-- Plans: there is exactly one, or no pieces are valid
pub mod Plannable
pub mod Walks
pub mod GoodPlaces
pub mod WalkChecks
pub mod WorkedPlans
-- Assembly: dropped points change no answer
pub mod AssembledAnswers
pub mod AssembledRows
pub mod PieceCells
