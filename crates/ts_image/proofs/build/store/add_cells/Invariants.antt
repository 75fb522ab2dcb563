use Rattle.std.proofs.Common.{◌≡◌, map, take}
use Rattle.ts_image.specs.CellParts.{cell_of_parts}
use Rattle.ts_image.specs.StoresMade.{with_cells_at}
use Rattle.ts_image.proofs.build.store.add_cells.Given as goal

abbrev pub invariant-loop-parts : goal.invariant-loop-parts
invariant-loop-parts g l = l.builder ≡ with_cells_at l.rule (map cell_of_parts (take l.parts-index l.cells)) l.initial.builder
