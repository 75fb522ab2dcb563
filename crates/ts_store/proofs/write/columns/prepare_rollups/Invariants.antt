use Rattle.std.proofs.Common.{take}
use Rattle.ts_store.specs.rollup.ChangedLists.{ChangesBeside}
use Rattle.ts_store.proofs.rollup.RollupsGrow.{IsPrepared}
use Rattle.ts_store.proofs.write.columns.prepare_rollups.Given as goal

abbrev pub invariant-loop-i : goal.invariant-loop-i
invariant-loop-i g l = ChangesBeside (IsPrepared (record { series = l.key; field = l.field })) (take l.i l.rules) l.initial.rollups l.rollups
