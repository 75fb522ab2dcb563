use Rattle.std.proofs.Common.{take}
use Rattle.std.specs.FinMap as finmap
use Rattle.ts_store.specs.rollup.ChangedLists.{ChangesBeside}
use Rattle.ts_store.proofs.rollup.RulesFilled.{AddsUnder}
use Rattle.ts_store.proofs.rollup.cells_filled.add_under_all.Given as goal

abbrev pub invariant-loop-i : goal.invariant-loop-i
invariant-loop-i g l = ChangesBeside (AddsUnder l.number (finmap.entries l.column.points)) (take l.i l.rules) l.initial.rollups l.rollups
