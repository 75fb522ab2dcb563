-- Transitions of a store's content, and their laws.
pub mod Runs
pub mod StoreMoves
pub mod StoreLaws
pub mod RuleMoves
