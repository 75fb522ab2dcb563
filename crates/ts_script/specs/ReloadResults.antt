-- The effect of saving a store and loading it back. (Own rules.)
use Rattle.std.specs.Prelude.{◌≡◌, ℕ, List}
use Rattle.ts_core.specs.store.StoreData.{StoreData}
use Rattle.ts_store.specs.image.SavedContent.{SavedSeries}
use Rattle.ts_store.specs.store.SizedStores.{IsSized}
use Rattle.ts_image.specs.declared.load_fault.LoadFault.{LoadFault}
use Rattle.ts_image.specs.declared.load_fault.LoadFault.TheVariants as loading
use Rattle.ts_image.specs.declared.save_fault.SaveFault.{SaveFault}
use Rattle.ts_image.specs.declared.save_fault.SaveFault.TheVariants as saving
use Rattle.ts_image.specs.declared.version.Version.TheVariants.{V2}
use Rattle.ts_image.specs.Images.{image, image_text}
use Rattle.ts_image.specs.Saving.{IsOrder, store_image}
use Rattle.ts_image.specs.StoresMade.{IsStoreOf}
use Rattle.ts_script.specs.declared.reloading.ReloadFault.{ReloadFault}
use Rattle.ts_script.specs.declared.reloading.ReloadFault.TheVariants.{OutOfMemory, NotAccepted}

-- the bytes are the image of the store
pub record IsImageIn (k : StoreData) (bytes : List ℕ) : Type 0 where
  pub order : List SavedSeries
  pub ordered : IsOrder k order
  pub fits : (image V2).fits (store_image k order)
  pub text : bytes ≡ image_text V2 (store_image k order)

-- the new store is loaded from an image of the old one
pub record IsReloadOf (old new : StoreData) : Type 0 where
  pub order : List SavedSeries
  pub ordered : IsOrder old order
  pub sized : IsSized old
  pub made : IsStoreOf (store_image old order) new

-- ---- errors

-- a vector accepts all bytes, unless out of memory
abbrev pub save_failed : SaveFault → ReloadFault
save_failed saving.Device = OutOfMemory
save_failed saving.OutOfMemory = OutOfMemory

-- a slice fails no read, and no slice needs 2^32 reads
abbrev pub load_failed : LoadFault → ReloadFault
load_failed loading.NotAnImage = NotAccepted
load_failed loading.OtherVersion = NotAccepted
load_failed (loading.Misshapen n) = NotAccepted
load_failed loading.Contradiction = NotAccepted
load_failed loading.Device = OutOfMemory
load_failed loading.TooManyReads = OutOfMemory
load_failed loading.OutOfMemory = OutOfMemory
