use Rattle.std.proofs.Common.{take}
use Rattle.std.specs.List.{zip}
use Rattle.ts_store.specs.rollup.ChangedLists.{ChangesBeside}
use Rattle.ts_store.proofs.write.CellsCreatedLemmas.{IsCreated}
use Rattle.ts_store.proofs.write.creating.create_cells.Given as goal

abbrev pub invariant-loop-i : goal.invariant-loop-i
invariant-loop-i g l = ChangesBeside (IsCreated l.touched) (take l.i (zip l.buckets l.lows)) l.initial.rollups l.rollups
