use Rattle.std.proofs.Common.{rules}
use Rattle.ts_core.specs.store.Cells.{cell_cmp}
use Rattle.ts_image.specs.TestParts.{key_of_cell}
use Rattle.ts_image.proofs.Testing.{rising_sorted}
use Rattle.ts_image.proofs.check.cells.are_cells_rising.Goals as goal

pub returns : goal.returns
returns g c = rising_sorted cell_cmp key_of_cell c.args.cells.now c.is_sorted_by.ensures.cases (λ q a b q' k. search rules)
