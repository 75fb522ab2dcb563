-- Exports
pub mod AppendLemmas
pub mod ExportLemmas
pub mod NameLemmas
-- FaultTables
pub mod FaultTableLemmas
-- SettingsShown
pub mod SettingsShownLemmas
-- ServedRequests
pub mod RequestLemmas
-- CommandLines
pub mod CommandLineLemmas
