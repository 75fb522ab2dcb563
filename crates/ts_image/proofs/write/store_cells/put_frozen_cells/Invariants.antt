use Rattle.std.proofs.Common.{◌<◌}
use Rattle.std.specs.List.{AllByRecursion}
use Rattle.ts_image.specs.Images.{image_cell}
use Rattle.ts_store.specs.image.SavedContent.{FrozenCell}
use Rattle.ts_image.specs.SavedParts.{image_rule_of}
use Rattle.ts_image.specs.Saving.{FitsCell, image_cell_of}
use Rattle.ts_image.proofs.Putting.{Going}
use Rattle.ts_image.proofs.write.store_cells.put_frozen_cells.Given as goal

abbrev pub invariant-loop-cell : goal.invariant-loop-cell
invariant-loop-cell g l = record {
  going : Going (image_cell (image_rule_of l.rule)) image_cell_of l.initial.sink l.initial.out l.fn.cells l.cell-iterator l.sink l.out;
  fit : AllByRecursion (FitsCell l.rule) l.cell-iterator;
  some : AllByRecursion (λ (c : FrozenCell). 0 < c.frozen.count) l.cell-iterator;
}
