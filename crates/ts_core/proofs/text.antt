-- FaultTexts
pub mod FaultTextLemmas
-- Texts
pub mod PairTexts
-- lists and comparisons, for all others
pub mod NumberLemmas
