-- Buckets
pub mod BucketsOrder
pub mod BucketsLemmas
pub mod BucketsNear
pub mod IndicesFit
pub mod EdgesLemmas
-- Aggregates, Partials: folds of points
pub mod AggregatesLemmas
pub mod EqualLemmas
pub mod Folds
pub mod Groups
-- Remainders
pub mod RemaindersLemmas
-- Means, Ratios
pub mod MeansLemmas
