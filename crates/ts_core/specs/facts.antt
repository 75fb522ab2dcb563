-- Times with their units, durations, facts with their tags, and the latest facts.
pub mod Times
pub mod Facts
pub mod TimeUnits
pub mod Tags
pub mod Durations
pub mod Latest
