use Rattle.std.proofs.Common.{◌≡◌, map, take, string_bytes}
use Rattle.ts_cells.specs.Grids.{borrowed_texts}
use Rattle.ts_image.proofs.build.parts.borrow_strings.Given as goal

abbrev pub invariant-loop-text : goal.invariant-loop-text
invariant-loop-text g l = borrowed_texts l.borrowed.items ≡ map string_bytes (take l.text-index l.texts)
