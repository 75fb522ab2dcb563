use Rattle.std.proofs.Common.{map, drop}
use Rattle.std.specs.Int.{w64}
use Rattle.ts_image.specs.Formats.{list_of}
use Rattle.ts_image.specs.Images.{ImageRule, image_cell}
use Rattle.ts_image.specs.RuleParts.{rule_from_parts}
use Rattle.ts_image.specs.CellParts.{cells_of_parts}
use Rattle.ts_image.proofs.Alongs.{HasReadAlong}
use Rattle.ts_image.proofs.read.cells.read_all_cells.Given as goal

abbrev pub invariant-loop-rule : goal.invariant-loop-rule
invariant-loop-rule g l = HasReadAlong (λ (r : ImageRule). list_of w64 (image_cell r)) (map rule_from_parts l.rules) (map rule_from_parts (drop l.rule-index l.rules)) (map cells_of_parts l.all.items) l.initial.reader l.initial.source l.reader l.source
