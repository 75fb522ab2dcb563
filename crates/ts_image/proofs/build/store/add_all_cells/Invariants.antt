use Rattle.std.proofs.Common.{◌≡◌, map, take}
use Rattle.ts_image.specs.CellParts.{cells_of_parts}
use Rattle.ts_image.specs.StoresMade.{with_all_cells}
use Rattle.ts_image.proofs.build.store.add_all_cells.Given as goal

abbrev pub invariant-loop-rule : goal.invariant-loop-rule
invariant-loop-rule g l = l.builder ≡ with_all_cells (map cells_of_parts (take l.rule l.cells)) l.initial.builder
