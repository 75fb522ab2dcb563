-- The data that is written of a store that represents a history. (Own rules.)
use Rattle.ts_core.specs.settings.Settings.{Settings}
use Rattle.ts_core.specs.store.History.{History}
use Rattle.ts_core.specs.store.StoreStates.{StandsFor}
use Rattle.ts_core.specs.store.StoreData.{StoreData, state_of}
use Rattle.std.specs.Prelude.{List}
use Rattle.ts_image.specs.declared.version.Version.TheVariants.{V2}
use Rattle.ts_image.specs.ImageTests.{IsPossible}
use Rattle.ts_image.specs.Pictures.{IsPictureOf}
use Rattle.ts_image.specs.SavedImages.{IsWellFormed}
use Rattle.ts_store.specs.image.SavedContent.{SavedSeries}
use Rattle.ts_image.specs.Saving.{store_image, IsOrder}

-- it is a picture of the store, and has no contradiction
pub record IsAcceptable (k : StoreData) (order : List SavedSeries) : Type 0 where
  pub picture : IsPictureOf k (store_image k order)
  pub possible : IsPossible V2 (store_image k order)

abbrev pub WrittenImagesAreAcceptable : Type 0
WrittenImagesAreAcceptable = (opening : Settings) (h : History) (k : StoreData) (order : List SavedSeries)
    → StandsFor opening h (state_of k) → IsWellFormed k → IsOrder k order → IsAcceptable k order
