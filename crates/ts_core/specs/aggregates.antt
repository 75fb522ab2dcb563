-- Buckets of time; aggregates of points, merging them and taking them apart, and means.
pub mod Buckets
pub mod Edges
pub mod Orders
pub mod Partials
pub mod Aggregates
pub mod Means
pub mod Ratios
pub mod Remainders
pub mod OrderLaws
pub mod MergeLaws
pub mod SoundLaws
