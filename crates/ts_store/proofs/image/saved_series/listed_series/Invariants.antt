use Rattle.std.proofs.Common.{◌≡◌, map, take}
use Rattle.ts_store.specs.image.ColumnsListed.{without_columns}
use Rattle.ts_store.proofs.image.saved_series.listed_series.Given as goal

abbrev pub invariant-loop-key : goal.invariant-loop-key
invariant-loop-key g l = l.all.items ≡ map without_columns (take l.key-index l.index.series)
