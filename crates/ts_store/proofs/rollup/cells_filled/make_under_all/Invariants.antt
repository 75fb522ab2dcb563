use Rattle.std.proofs.Common.{take}
use Rattle.std.specs.FinMap as finmap
use Rattle.std.specs.List.{zip}
use Rattle.ts_store.specs.rollup.ChangedLists.{ChangesBeside}
use Rattle.ts_store.proofs.rollup.CellsCreated.{MakesUnder}
use Rattle.ts_store.proofs.rollup.cells_filled.make_under_all.Given as goal

abbrev pub invariant-loop-i : goal.invariant-loop-i
invariant-loop-i g l = ChangesBeside (MakesUnder l.number (finmap.entries l.column.points)) (take l.i (zip l.rules l.lows)) l.initial.rollups l.rollups
