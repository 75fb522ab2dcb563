-- Reloading a store that represents a history: it succeeds, unless out of memory.
use Rattle.std.proofs.Common.{◌≡◌, List, ℕ, Option, Some, IfSome, refl, sym, subst}
use Rattle.ts_core.specs.io.Devices.{Input}
use Rattle.ts_core.specs.store.StoreData.{StoreData, OfEachHistory}
use Rattle.ts_image.specs.declared.load_fault.LoadFault.{LoadFault}
use Rattle.ts_image.specs.declared.load_fault.LoadFault.TheVariants as loading
use Rattle.ts_image.specs.declared.save_fault.SaveFault.{SaveFault}
use Rattle.ts_image.specs.declared.save_fault.SaveFault.TheVariants as saving
use Rattle.ts_image.specs.declared.version.Version.TheVariants.{V2}
use Rattle.ts_image.specs.FormatLaws.{AreBytes}
use Rattle.ts_image.specs.ImageFaults.{IsFaultOf, IsOfBytes}
use Rattle.ts_image.specs.Images.{ImageData}
use Rattle.ts_image.specs.SavedImages.{IsWellFormed}
use Rattle.ts_image.specs.Saving.{store_image}
use Rattle.ts_image.proofs.WrittenPictures.{written_acceptable}
use Rattle.ts_image.proofs.ImageBytes.{image_bytes}
use Rattle.ts_image.proofs.Unambiguous.{are_unambiguous}
use Rattle.ts_script.specs.ReloadResults.{IsImageIn, save_failed, load_failed}
use Rattle.ts_script.specs.declared.reloading.ReloadFault.TheVariants.{OutOfMemory}

pub saves_but_for_memory : (fault : SaveFault) → save_failed fault ≡ OutOfMemory
saves_but_for_memory saving.Device = refl
saves_but_for_memory saving.OutOfMemory = refl

-- the bytes have no fault
none_of_bytes : (bytes : List ℕ) (fault : LoadFault) → (IsOfBytes fault → ⊥) → load_failed fault ≡ OutOfMemory
none_of_bytes bytes loading.NotAnImage none = absurd (none tt)
none_of_bytes bytes loading.OtherVersion none = absurd (none tt)
none_of_bytes bytes (loading.Misshapen n) none = absurd (none tt)
none_of_bytes bytes loading.Contradiction none = absurd (none tt)
none_of_bytes bytes loading.Device none = refl
none_of_bytes bytes loading.TooManyReads none = refl
none_of_bytes bytes loading.OutOfMemory none = refl

pub loads_but_for_memory : (k : StoreData) (bytes : List ℕ) (source : Input) (fault : LoadFault) → source.remaining ≡ Some bytes → IsImageIn k bytes → IsWellFormed k → IfSome source.remaining (λ bs. AreBytes bs → IsFaultOf bs fault)
    → OfEachHistory k (λ opening h. load_failed fault ≡ OutOfMemory)
loads_but_for_memory k bytes source fault known is w told = λ opening h st.
    let d : ImageData = store_image k is.order in
    let are : AreBytes bytes = subst AreBytes (sym is.text) (image_bytes V2 d is.fits) in
    let had : IsFaultOf bytes fault = subst (λ (o : Option (List ℕ)). IfSome o (λ bs. AreBytes bs → IsFaultOf bs fault)) known told are in
    let possible = (written_acceptable opening h k is.order st w is.ordered).possible in
    none_of_bytes bytes fault (λ of_bytes. (are_unambiguous V2 d bytes (record { fits = is.fits; text = is.text }) possible).0 fault of_bytes had)
