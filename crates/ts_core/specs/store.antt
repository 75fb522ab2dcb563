-- Histories, marks and cells, the state of a store, and views of it.
pub mod History
pub mod Marks
pub mod RawFacts
pub mod Cells
pub mod TwoParts
pub mod StoreStates
pub mod Views
pub mod StoreData
pub mod StoreCodes
