-- The columns of an export are those of the store.
use Rattle.std.proofs.Common.{◌<◌, List, [], ◌∷◌, ◌++◌, length, map}
use Rattle.std.specs.Prelude.{flat_map}
use Rattle.std.specs.List.{AllByRecursion}
use Rattle.ts_core.proofs.lists.ListSteps.{all_append}
use Rattle.ts_core.specs.facts.Facts.{Series}
use Rattle.ts_core.specs.store.StoreData.{StoreData}
use Rattle.ts_store.specs.image.SavedContent.{SavedColumn, SavedSeries}
use Rattle.ts_image.specs.Saving.{HasItsColumns}
use Rattle.tsdb.specs.Exports.{ExportColumn, export_column, series_columns}

module _ (k : StoreData) where
  abbrev pub IsThere : ExportColumn → Type 0
  IsThere column = column.number < length k.columns

  series_there : (s : Series) (cs : List SavedColumn) → AllByRecursion (λ (c : SavedColumn). c.number < length k.columns) cs → AllByRecursion IsThere (map (export_column s) cs)
  series_there s [] w = tt
  series_there s (c ∷ cs) w = (w.0, series_there s cs w.1)

  pub all_there : (all : List SavedSeries) → AllByRecursion (HasItsColumns k) all → AllByRecursion IsThere (flat_map series_columns all)
  all_there [] w = tt
  all_there (s ∷ ss) w = all_append IsThere (series_columns s) (flat_map series_columns ss) (series_there s.series s.columns w.0) (all_there ss w.1)
