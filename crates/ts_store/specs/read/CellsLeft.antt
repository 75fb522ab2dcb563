-- The remaining cells of an iterator. (Own rule.)
use Rattle.std.specs.Prelude.{List}
use Rattle.ts_store.specs.read.ViewResults.{SeenCell}
use Rattle.ts_store.specs.declared.read.cell_walk.CellsSource as declared
use Rattle.ts_store.specs.declared.read.cell_walk.CellsSource.TheVariants as variants

abbrev pub cells_left : {A : Type 0} → declared.CellsSource A → List SeenCell
cells_left (variants.Rollup cells) = cells
cells_left (variants.Borrowed cells) = cells
