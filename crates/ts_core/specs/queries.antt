-- Queries, answers, and fill values.
pub mod Queries
pub mod Answers
pub mod Fills
