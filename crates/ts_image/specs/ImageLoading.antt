-- Loading an image: exactly those without faults are loaded. (Own rules.)
use Rattle.std.specs.Prelude.{◌≡◌, ℕ, Result, IfSome}
use Rattle.ts_core.specs.io.Devices.{Input}
use Rattle.ts_core.specs.store.StoreData.{StoreData, StaysFor}
use Rattle.ts_image.specs.declared.image_loading.LoadedImage.{LoadedImage}
use Rattle.ts_image.specs.declared.load_fault.LoadFault.{LoadFault}
use Rattle.ts_image.specs.declared.version.Version.{Version}
use Rattle.ts_image.specs.FormatLaws.{AreBytes}
use Rattle.ts_image.specs.Images.{ImageData}
use Rattle.ts_image.specs.RuleParts.{settings_of_parts}
use Rattle.ts_image.specs.ImageFaults.{IsImageOf}
use Rattle.ts_image.specs.ImageTests.{IsPossible, settings_of_image}
use Rattle.ts_image.specs.ImageReading.{image_of, Loads, HadImage}
use Rattle.ts_image.specs.Pictures.{IsPictureOf}
use Rattle.ts_image.specs.StoresMade.{IsStoreOf}

-- the source had the image's bytes, the image has no contradiction, and the settings are those of the image
pub record IsLoaded {A : Type 0} (source : Input) (image : LoadedImage A) : Type 0 where
  pub bytes : HadImage source image.version (image_of image.parts)
  pub possible : IsPossible image.version (image_of image.parts)
  pub settings : image.settings ≡ settings_of_image (settings_of_parts image.parts.settings)

-- loads an image without contradictions
abbrev pub LoadsImage : {A : Type 0} → Input → ℕ → Result (LoadedImage A) LoadFault → Input → Type 0
LoadsImage source reads result source' = Loads (IsLoaded source) source reads result source'

-- the source had the bytes of an image without contradictions, and the store is created from its data
pub record IsLoadedStore (source : Input) (k : StoreData) : Type 0 where
  pub version : Version
  pub image : ImageData
  pub bytes : HadImage source version image
  pub possible : IsPossible version image
  pub store : IsStoreOf image k

-- loads a store
abbrev pub LoadsStore : Input → ℕ → Result StoreData LoadFault → Input → Type 0
LoadsStore source reads result source' = Loads (IsLoadedStore source) source reads result source'

-- if the source had the image of a store, the loaded store represents each history that this one represented
abbrev pub StandsAsSaved : Input → StoreData → Type 0
StandsAsSaved source k =
    IfSome source.remaining (λ bytes. AreBytes bytes → (v : Version) (d : ImageData) (saved : StoreData)
    → IsImageOf v d bytes → IsPictureOf saved d → StaysFor saved k)
