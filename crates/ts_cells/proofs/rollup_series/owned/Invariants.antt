use Rattle.std.proofs.Common.{◌≡◌, map, string_bytes, take}
use Rattle.ts_cells.specs.Grids.{borrowed_texts}
use Rattle.ts_cells.proofs.rollup_series.owned.Given as goal

abbrev pub invariant-loop-text : goal.invariant-loop-text
invariant-loop-text g l = map string_bytes l.all.items ≡ borrowed_texts (take l.text-index l.texts)
