use Rattle.std.proofs.Common.{◌≡◌, map, take}
use Rattle.std.specs.List.{AllByRecursion}
use Rattle.ts_core.specs.store.History.{MayBeTaken}
use Rattle.ts_core.specs.facts.Times.{least_time}
use Rattle.ts_line.specs.Parts.{fact_of}
use Rattle.ts_store.specs.store.ColumnStates.{columns_in, AreStaged, IsSoundContent}
use Rattle.ts_store.specs.rollup.Rollups.{AreRollups, cells_of}
use Rattle.ts_store.specs.write.Registered.{MakesAll}
use Rattle.ts_store.proofs.write.columns.prepare_line.Given as goal

abbrev pub invariant-loop-field : goal.invariant-loop-field
invariant-loop-field g l = record {
  staged : AreStaged l.index.columns l.columns.items l.touched.items (map (fact_of l.line) (take l.field-index l.field-items));
  taken : AllByRecursion (MayBeTaken least_time) (map (fact_of l.line) (take l.field-index l.field-items));
  made : MakesAll (columns_in l.initial.index l.initial.columns.items) (columns_in l.index l.columns.items) (map (fact_of l.line) (take l.field-index l.field-items));
  held : IsSoundContent l.index l.columns.items;
  rollups : AreRollups l.rules l.index.columns l.rollups;
  cells : cells_of l.rollups ≡ cells_of l.initial.rollups;
  series : l.index.series ≡ l.initial.index.series;
}
