-- The invariant of a store. (Own rule.)
use Rattle.std.specs.Prelude.{◌≡◌, ℕ, Option, length, map}
use Rattle.ts_core.specs.settings.Settings.{Settings}
use Rattle.ts_core.specs.store.Marks.{Marks}
use Rattle.ts_core.specs.store.StoreStates.{column_of}
use Rattle.ts_core.specs.store.StoreData.{AreLive}
use Rattle.ts_store.specs.retain.OpenRuns.{Run, IsWithin, data_of_parts}
use Rattle.ts_store.specs.rollup.Rollups.{AreRollups}
use Rattle.ts_store.specs.store.CellCounts.{HoldFew}
use Rattle.ts_store.specs.store.ColumnStates.{StoreContent}
use Rattle.ts_store.specs.store.PossibleCells.{HavePossibleCells}
use Rattle.ts_store.specs.store.SizedStores.{IsSized}

-- the invariant of a store with these parts
pub record IsSoundStore (settings : Settings)
    (marks : Marks) (n : ℕ) (held : StoreContent) (run : Option Run) : Type 0 where
  pub rollups : AreRollups settings.rules (map column_of held.columns) held.rollups
  -- each rule has a low index
  pub lows : length marks.lows ≡ length settings.rules
  pub few : IsWithin run held.columns
  pub counts : HoldFew n held.columns (data_of_parts settings marks n held run).rules
  pub live : AreLive held.columns (data_of_parts settings marks n held run).rules
  pub possible : HavePossibleCells (data_of_parts settings marks n held run).rules
  pub sized : IsSized (data_of_parts settings marks n held run)
