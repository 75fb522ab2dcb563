-- Pieces of plans and their faults, the plan of a query, and the answer that a plan gives.
pub mod Pieces
pub mod Faults
pub mod Plans
pub mod Assembly
