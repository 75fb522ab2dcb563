use Rattle.std.proofs.Common.{map, drop}
use Rattle.std.specs.Int.{w64}
use Rattle.ts_core.specs.facts.Facts.{Text}
use Rattle.ts_core.specs.io.Devices.{Output}
use Rattle.ts_image.specs.Formats.{along, list_of}
use Rattle.ts_image.specs.Images.{ImageRule, image_cell}
use Rattle.ts_image.specs.FieldWriting.{PutsField}
use Rattle.ts_image.specs.SavedParts.{image_rule_of}
use Rattle.ts_image.specs.Saving.{image_cell_of, saved_cells}
use Rattle.ts_image.proofs.Putting.{Answer}
use Rattle.ts_image.proofs.write.store_cells.put_all_cells.Given as goal

-- after the cells of the rules that are left, those of all are written
abbrev pub invariant-loop-number : goal.invariant-loop-number
invariant-loop-number g l =
    (r : Answer) (sink : Output) (out : Text) → PutsField (along (λ (rule : ImageRule). list_of w64 (image_cell rule)) (map image_rule_of (drop l.number l.rules))) (map (map image_cell_of) (drop l.number (saved_cells l.store))) l.sink l.out r sink out
    → PutsField (along (λ (rule : ImageRule). list_of w64 (image_cell rule)) (map image_rule_of l.rules)) (map (map image_cell_of) (saved_cells l.store)) l.initial.sink l.initial.out r sink out
