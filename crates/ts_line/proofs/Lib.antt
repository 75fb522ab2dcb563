-- Spelling, EscapeLaws: each spelling is read as its parts, and the parts that are read spell the line
pub mod Laws
pub mod SpellingRead
pub mod LineSpelled
pub mod FieldsSpelled
pub mod TagsSpelled
pub mod SpellingFacts
pub mod LineFacts
pub mod FieldFacts
pub mod TagFacts
pub mod PartFacts
pub mod Suffixes
-- Spans: the parts are in the line
pub mod SpansLemmas
-- Names: the names in a line that was read
pub mod NameFacts
-- Lines: their parts one after another
pub mod LineLemmas
-- TagParts, Fields, NameFilters: tag by tag, field by field
pub mod TagLemmas
pub mod KeyLemmas
pub mod FieldLemmas
pub mod MarkLemmas
pub mod StepsPutLemmas
-- Ends: the same without parts
pub mod EndLemmas
-- Scan, PartTexts: byte by byte
pub mod ScanLemmas
pub mod PieceLemmas
-- Lines, Values
pub mod MomentLemmas
pub mod ShortLemmas
pub mod ValueLemmas
-- Sorting
pub mod SortingLemmas
-- FaultText
pub mod FaultLemmas
