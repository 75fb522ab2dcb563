use Rattle.std.proofs.Common.{◌-◌, map}
use Rattle.ts_image.specs.CellParts.{cell_of_parts}
use Rattle.ts_image.specs.Images.{image_cell}
use Rattle.ts_image.specs.RuleParts.{rule_from_parts}
use Rattle.ts_image.proofs.Loops.{HasRead}
use Rattle.ts_image.proofs.read.cells.read_cells.Given as goal

abbrev pub invariant-loop : goal.invariant-loop
invariant-loop g l = HasRead (image_cell (rule_from_parts l.rule)) l.count (l.count - l.counter) (map cell_of_parts l.cells.items) l.initial.reader l.initial.source l.reader l.source
