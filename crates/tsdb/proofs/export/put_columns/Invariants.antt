use Rattle.std.proofs.Common.{take}
use Rattle.std.specs.Prelude.{flat_map}
use Rattle.ts_core.specs.io.OutputBuffering.{IsBuffered}
use Rattle.ts_core.proofs.io.OutputBufferLemmas.{done}
use Rattle.tsdb.specs.Exports.{column_lines}
use Rattle.tsdb.proofs.export.put_columns.Given as goal

abbrev pub invariant-loop-column : goal.invariant-loop-column
invariant-loop-column g l = IsBuffered l.initial.sink l.initial.out done (flat_map (column_lines l.store) (take l.column-index l.columns)) l.sink l.out
