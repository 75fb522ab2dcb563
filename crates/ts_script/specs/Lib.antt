-- cited by public contracts: the output of a script
pub mod ScriptLines
pub mod Commands
pub mod Moments
pub mod ScriptCertificates
pub mod MarksTexts
pub mod Reloads
pub mod Machine
pub mod ScriptReplies
pub mod RunFaults
pub mod Script
pub mod CommandParts
-- used only by models and proofs of the code
pub mod Opening
pub mod ReloadResults
pub mod MachineState
pub mod ReaderState
pub mod LineReading
