use Rattle.std.proofs.Common.{take}
use Rattle.ts_store.specs.rollup.ChangedLists.{ChangesBeside}
use Rattle.ts_store.proofs.retain.RollupMoves.{MovesUnder}
use Rattle.ts_store.proofs.store.column_facts.ColumnFacts.move_column.Given as goal

abbrev pub invariant-loop-i : goal.invariant-loop-i
invariant-loop-i g l = ChangesBeside (MovesUnder l.columns l.column l.mark) (take l.i l.rules) l.initial.rollups l.rollups
