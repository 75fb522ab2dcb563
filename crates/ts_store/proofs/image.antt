-- SavedContent
pub mod ListedColumns
pub mod WaitingAt
-- Building: a store created from parts
pub mod PartsBuilt
pub mod StoresBuilt
