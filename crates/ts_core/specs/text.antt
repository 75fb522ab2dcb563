-- Texts in memory, offsets in them, and the faults of all layers with their messages.
pub mod FaultCodes
pub mod FaultTexts
pub mod Hashing
pub mod Texts
pub mod Numbers
pub mod Cursors
pub mod Steps
