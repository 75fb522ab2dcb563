-- ViewResults, LiveCells, CellsRead, FrozenLeft: the results of a view
pub mod ShownCells
pub mod ColumnRefLemmas
