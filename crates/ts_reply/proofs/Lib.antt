-- Answering, Explaining: the outcome of a query
pub mod Answered
pub mod Each
-- Counts: the number of matching facts
pub mod CountLemmas
-- Replies, AppendedData: texts part by part
pub mod Appended
pub mod Floats
-- SeriesTexts: texts of series and rows
pub mod SeriesParts
pub mod RowTexts
pub mod PlainTexts
-- TimeTexts: the text of a time
pub mod OneText
pub mod Times
