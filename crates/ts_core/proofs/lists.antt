-- Tables, Links, LastBelow, Numbered: names by their indices, searched by hash
pub mod TableLemmas
pub mod ChainSearches
pub mod Chained
pub mod LastBelows
pub mod NumberedLemmas
-- lists and comparisons, for all others
pub mod MembersLemmas
pub mod BesideLemmas
pub mod ListSteps
pub mod Remaining
pub mod Indices
pub mod Permutations
pub mod Places
pub mod Sorted
pub mod Windows
pub mod Comparisons
pub mod Results
