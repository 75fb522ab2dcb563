use Rattle.std.proofs.Common.{◌≡◌, length, map, take}
use Rattle.ts_image.specs.Saving.{saved_cells}
use Rattle.ts_image.proofs.write.store_cells.count_all_cells.Given as goal

abbrev pub invariant-loop-number : goal.invariant-loop-number
invariant-loop-number g l = record {
  each : l.rules ≡ length (saved_cells l.store);
  counted : l.counts.items ≡ map length (take l.number (saved_cells l.store));
}
