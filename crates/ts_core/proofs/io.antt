-- ReadCounts: reads, each of which counts
pub mod ReadCounts
-- OutputBuffering: several appends in a row
pub mod OutputBufferLemmas
