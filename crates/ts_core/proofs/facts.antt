-- TimeUnits, Durations
pub mod DurationLaws
pub mod DurationSteps
pub mod UnitLemmas
-- Latest
pub mod Latests
-- Facts: orders of names and ids
pub mod Ids
