-- Small histories, computed
pub mod RetentionRows
-- StoreStates: the history that a store represents, transition by transition
pub mod Moves
pub mod Begins
pub mod RulesCome
pub mod RunSteps
pub mod Writes
pub mod Lines
pub mod StateLemmas
pub mod ColumnFacts
pub mod Cuts
-- Marks
pub mod LowIndices
-- Views
pub mod Shown
