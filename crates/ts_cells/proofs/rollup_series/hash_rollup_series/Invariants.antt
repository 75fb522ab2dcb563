use Rattle.std.proofs.Common.{◌≡◌, take}
use Rattle.std.specs.RandomState.{initial_hasher}
use Rattle.ts_cells.specs.Grids.{borrowed_texts}
use Rattle.ts_core.specs.text.Hashing.{with_text}
use Rattle.ts_cells.specs.RollupSeriesTable.{hash_of_texts}
use Rattle.ts_cells.proofs.rollup_series.hash_rollup_series.Given as goal

abbrev pub invariant-loop-text : goal.invariant-loop-text
invariant-loop-text l = l.hasher ≡ hash_of_texts (with_text (initial_hasher l.seed) l.field) (borrowed_texts (take l.text-index l.group))
