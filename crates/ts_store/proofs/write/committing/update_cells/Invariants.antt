use Rattle.std.proofs.Common.{◌≡◌, take}
use Rattle.ts_store.specs.rollup.ChangedLists.{ChangesBeside}
use Rattle.ts_store.proofs.write.PointsPut.{PutsUnder}
use Rattle.ts_store.proofs.write.committing.update_cells.Given as goal

abbrev pub invariant-loop-i : goal.invariant-loop-i
invariant-loop-i g l = record {
  changed : ChangesBeside (PutsUnder l.columns l.column l.time l.value l.initial.old) (take l.i l.rules) l.initial.rollups l.rollups;
  same : l.old ≡ l.initial.old;
}
