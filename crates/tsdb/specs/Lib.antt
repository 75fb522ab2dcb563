-- the actions of command lines, and the outcomes of the program
pub mod FaultTables
pub mod CommandLines
pub mod RunOutcomes
pub mod Calls
pub mod ServedRequests
pub mod Services
pub mod Inspections
pub mod SettingsShown
pub mod Exports
pub mod Openings
-- used only by proofs of the code
pub mod FaultNumbers
