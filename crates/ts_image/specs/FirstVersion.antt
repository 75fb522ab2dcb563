-- Images of version 1, which are written of stores without an open run and without an added rule. Each is loaded. (Own
-- rules.)
use Rattle.std.specs.Prelude.{◌≡◌, ℕ, List, [], ◌∷◌, Some, Result, MatchResult}
use Rattle.ts_core.specs.io.Devices.{Input}
use Rattle.ts_core.specs.settings.Settings.{Settings}
use Rattle.ts_core.specs.store.History.{History, Line, Begin, Step, AddRule, DropRule, IsRunOpen}
use Rattle.ts_core.specs.store.StoreStates.{StandsFor}
use Rattle.ts_core.specs.store.StoreData.{StoreData, state_of}
use Rattle.ts_store.specs.image.SavedContent.{SavedSeries}
use Rattle.ts_image.specs.declared.load_fault.LoadFault.{LoadFault}
use Rattle.ts_image.specs.declared.version.Version.TheVariants.{V1, V2}
use Rattle.ts_image.specs.Images.{ImageData, image, image_text}
use Rattle.ts_image.specs.ImageTests.{IsPossible}
use Rattle.ts_image.specs.ImageFaults.{IsOfBytes}
use Rattle.ts_image.specs.ImageLoading.{LoadsStore}
use Rattle.ts_image.specs.Pictures.{IsPictureOf}
use Rattle.ts_image.specs.SavedImages.{IsOrderly, IsWellFormed}
use Rattle.ts_image.specs.Saving.{store_image, IsOrder}

-- each rule is one of the opening settings
abbrev pub HasNoAddedRule : History → Type 0
HasNoAddedRule [] = Unit {0}
HasNoAddedRule (Line facts ∷ h) = HasNoAddedRule h
HasNoAddedRule (Begin now ∷ h) = HasNoAddedRule h
HasNoAddedRule (Step ended ∷ h) = HasNoAddedRule h
HasNoAddedRule (AddRule rule ∷ h) = ⊥
HasNoAddedRule (DropRule name ∷ h) = HasNoAddedRule h

-- Version 1 has an image of the store: it represents a history without an open run and without an added rule, and is
-- well formed.
pub record HasFirstImage (opening : Settings) (h : History) (k : StoreData) : Type 0 where
  pub stands : StandsFor opening h (state_of k)
  pub idle : IsRunOpen h → ⊥
  pub opened : HasNoAddedRule h
  pub formed : IsWellFormed k

-- the image has no contradiction
abbrev pub FirstImagesArePossible : Type 0
FirstImagesArePossible = (opening : Settings) (h : History) (k : StoreData) (d : ImageData)
    → HasFirstImage opening h k → IsPictureOf k d → IsOrderly d → IsPossible V1 d

-- the data fits the form of version 1 if it fits that of version 2
abbrev pub FirstImagesFit : Type 0
FirstImagesFit = (opening : Settings) (h : History) (k : StoreData) (order : List SavedSeries)
    → HasFirstImage opening h k → (image V2).fits (store_image k order) → (image V1).fits (store_image k order)

-- From a source with these bytes a store is loaded that represents the history. Only the device, the limit of reads or
-- memory may prevent it.
abbrev pub GivesStore : Settings → History → List ℕ → Type 0
GivesStore opening h bytes =
    (source source' : Input) (reads : ℕ) (result : Result StoreData LoadFault)
    → source.remaining ≡ Some bytes → LoadsStore source reads result source'
    → MatchResult result (λ k. StandsFor opening h (state_of k)) (λ e. IsOfBytes e → ⊥)

-- the image, in each order in which it may be written, is loaded
abbrev pub FirstImagesAreLoaded : Type 0
FirstImagesAreLoaded = (opening : Settings) (h : History) (k : StoreData) (order : List SavedSeries)
    → HasFirstImage opening h k → IsOrder k order
    → (image V1).fits (store_image k order) → GivesStore opening h (image_text V1 (store_image k order))
