-- Readers and writers, and buffers in front of them.
pub mod Devices
pub mod ReadingAhead
pub mod OutputBuffering
