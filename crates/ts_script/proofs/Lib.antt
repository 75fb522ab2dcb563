-- Script, MachineState: the progress of a run
pub mod Progress
-- Script: the same by the input of a known reader
pub mod ScriptLaws
-- Machine: one step
pub mod MachineLemmas
pub mod RuleCommands
pub mod ReloadLemmas
pub mod ReloadedCells
pub mod ReloadedStores
pub mod ReloadFaults
pub mod CommandLemmas
pub mod NumberLemmas
-- Reply: lengths of messages
pub mod ReplyLemmas
-- ScriptLines, ReaderState, LineReading: cutting bytes into lines
pub mod LineScan
-- ScriptCertificates, MarksTexts: texts
pub mod CertificateTextLemmas
pub mod MarksTextLemmas
