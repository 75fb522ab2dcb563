use Rattle.std.proofs.Common.{◌≡◌, List, length, take}
use Rattle.ts_core.specs.facts.Facts.{Column}
use Rattle.ts_core.specs.store.StoreStates.{facts_of}
use Rattle.ts_store.specs.image.BuildingParts.{MakesCells}
use Rattle.ts_store.specs.store.ColumnStates.{with_points, point_maps}
use Rattle.ts_core.specs.store.StoreData.{OfEachRule}
use Rattle.ts_store.specs.store.RuleLists.{rules_with}
use Rattle.ts_store.specs.rollup.Rollups.{AreRollups, cells_of}
use Rattle.ts_store.specs.retain.RollupSteps.{with_all_grid_cells}
use Rattle.ts_store.proofs.rollup.cells_filled.make_all_cells.Given as goal

abbrev pub invariant-loop-number : goal.invariant-loop-number
invariant-loop-number g l = record {
  kept : l.rollups ≡ with_all_grid_cells (cells_of l.rollups) l.fn.rollups;
  cells : (cs : List Column) → length l.columns ≡ length cs → AreRollups l.rules cs l.fn.rollups
      → OfEachRule (MakesCells (facts_of (take l.number (with_points cs (point_maps l.columns))))) (rules_with l.rules l.lows (cells_of l.fn.rollups)) (rules_with l.rules l.lows (cells_of l.rollups));
}
