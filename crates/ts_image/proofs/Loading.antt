-- Loading an image: reading it, and testing it then.
use Rattle.std.proofs.Common.{◌≡◌, ◌≤ℤ◌, ℕ, List, [], ◌∷◌, map, Option, Some, None, Result, Ok, Err, ap, subst}
use Rattle.std.specs.Prelude.{pos, IfSome}
use Rattle.std.specs.List.{AllByRecursion}
use Rattle.ts_core.specs.io.Devices.{Input}
use Rattle.ts_core.specs.settings.Settings.{Rule, Settings}
use Rattle.ts_image.specs.declared.read.rules.RuleParts.{RuleParts}
use Rattle.ts_image.specs.declared.read.image.ImageParts.{ImageParts}
use Rattle.ts_image.specs.declared.image_loading.LoadedImage.{LoadedImage}
use Rattle.ts_image.specs.declared.version.Version.{Version}
use Rattle.ts_image.specs.declared.load_fault.LoadFault.{LoadFault}
use Rattle.ts_image.specs.declared.load_fault.LoadFault.TheVariants.{Contradiction, TooManyReads, OutOfMemory}
use Rattle.ts_image.specs.FormatLaws.{AreBytes}
use Rattle.ts_image.specs.RuleParts.{rule_from_parts, settings_of_parts}
use Rattle.ts_image.specs.ImageTests.{IsPossible, rule_in, settings_of_image}
use Rattle.ts_image.specs.TestParts.{HasLongInterval}
use Rattle.ts_image.specs.ImageFaults.{IsImageOf, IsFaultOf}
use Rattle.ts_core.specs.store.StoreData.{StoreData, StaysFor}
use Rattle.ts_image.specs.Images.{ImageData}
use Rattle.ts_image.specs.ImageReading.{image_of, LoadsParts}
use Rattle.ts_image.specs.ImageLoading.{LoadsImage, LoadsStore, StandsAsSaved}
use Rattle.ts_image.specs.Pictures.{IsPictureOf}
use Rattle.ts_image.specs.StoresMade.{IsStoreOf}
use Rattle.ts_image.proofs.PictureLemmas.{pictured_stands}
use Rattle.ts_image.proofs.Unambiguous.{are_unambiguous}

-- intervals of a nanosecond or more are those of the parts
pub long_from : {A : Type 0} (rs : List (RuleParts A)) → AllByRecursion (λ (r : Rule). pos 1 ≤ℤ r.interval) (map rule_in (map rule_from_parts rs)) → AllByRecursion HasLongInterval rs
long_from [] h = tt
long_from (r ∷ rs) h = (h.0, long_from rs h.1)

if_some : (o : Option (List ℕ)) (P Q : List ℕ → Type 0) → ((bytes : List ℕ) → P bytes → Q bytes) → IfSome o P → IfSome o Q
if_some None P Q h p = tt
if_some (Some bytes) P Q h p = h bytes p

abbrev fault_or : {T : Type 0} → LoadFault → Result T LoadFault → LoadFault
fault_or d (Ok x) = d
fault_or d (Err e) = e

turns_again : (S T : Type 0) (e : LoadFault) → (let r : Result S LoadFault = Err e in r ≡ Err TooManyReads) → (let r : Result T LoadFault = Err e in r ≡ Err TooManyReads)
turns_again S T e h = ap (λ (x : LoadFault). Err x) (ap (fault_or e) h)

never_turns : (S : Type 0) → (let r : Result S LoadFault = Err Contradiction in r ≡ Err TooManyReads) → ⊥
never_turns S h = cc

no_memory_left : (S : Type 0) → (let r : Result S LoadFault = Err OutOfMemory in r ≡ Err TooManyReads) → ⊥
no_memory_left S h = cc

never_read : (S : Type 0) (x : S) → (let r : Result S LoadFault = Ok x in r ≡ Err TooManyReads) → ⊥
never_read S x h = cc

module _ (A : Type 0) (s : Input) (reads : ℕ) (t : Input) where
  -- an image that isn't read isn't loaded
  pub not_read : (e : LoadFault) → LoadsParts {A = A} s reads (Err e) t → LoadsImage {A = A} s reads (Err e) t
  not_read e p = record { ok = tt; err = p.err; rest = p.rest; failures = p.failures; ends = tt; within = p.within; each = p.each; spent = λ z. p.spent (turns_again (LoadedImage A) (Version × ImageParts A) e z) }

  module _ (v : Version) (parts : ImageParts A) (p : LoadsParts s reads (Ok (v, parts)) t) where
    pub is_loaded : (settings : Settings) → IsPossible v (image_of parts) → settings ≡ settings_of_image (settings_of_parts parts.settings)
        → LoadsImage {A = A} s reads (Ok (record { version = v; settings = settings; parts = parts })) t
    is_loaded settings is made = record {
      ok = record { bytes = p.ok; possible = is; settings = made };
      err = tt;
      rest = p.rest;
      failures = p.failures;
      ends = p.ends;
      within = p.within;
      each = p.each;
      spent = λ z. absurd (never_read (LoadedImage A) (record { version = v; settings = settings; parts = parts }) z);
    }

    pub contradicts : (IsPossible v (image_of parts) → ⊥) → LoadsImage {A = A} s reads (Err Contradiction) t
    contradicts never = record {
      ok = tt;
      err = if_some s.remaining (λ bytes. AreBytes bytes → IsImageOf v (image_of parts) bytes) (λ bytes. AreBytes bytes → IsFaultOf bytes Contradiction) (λ bytes is are. (v, image_of parts, is are, never)) p.ok;
      rest = p.rest;
      failures = p.failures;
      ends = tt;
      within = p.within;
      each = p.each;
      spent = λ z. absurd (never_turns (LoadedImage A) z);
    }

    pub out_of_memory : LoadsImage {A = A} s reads (Err OutOfMemory) t
    out_of_memory = record {
      ok = tt;
      err = if_some s.remaining (λ bytes. AreBytes bytes → IsImageOf v (image_of parts) bytes) (λ bytes. AreBytes bytes → IsFaultOf bytes OutOfMemory) (λ bytes is are. tt) p.ok;
      rest = p.rest;
      failures = p.failures;
      ends = tt;
      within = p.within;
      each = p.each;
      spent = λ z. absurd (no_memory_left (LoadedImage A) z);
    }

-- ---- the store that is created from it

module _ (s : Input) (reads : ℕ) (t : Input) where
  -- an image that isn't loaded gives no store
  pub no_store : (A : Type 0) (e : LoadFault) → LoadsImage {A = A} s reads (Err e) t → LoadsStore s reads (Err e) t
  no_store A e p = record { ok = tt; err = p.err; rest = p.rest; failures = p.failures; ends = tt; within = p.within; each = p.each; spent = λ z. p.spent (turns_again StoreData (LoadedImage A) e z) }

  module _ (A : Type 0) (image : LoadedImage A) (p : LoadsImage s reads (Ok image) t) where
    pub store_loaded : (k : StoreData) → IsStoreOf (image_of image.parts) k → LoadsStore s reads (Ok k) t
    store_loaded k made = record {
      ok = record { version = image.version; image = image_of image.parts; bytes = p.ok.bytes; possible = p.ok.possible; store = made };
      err = tt;
      rest = p.rest;
      failures = p.failures;
      ends = p.ends;
      within = p.within;
      each = p.each;
      spent = λ z. absurd (never_read StoreData k z);
    }

    pub no_memory_for_store : LoadsStore s reads (Err OutOfMemory) t
    no_memory_for_store = record {
      ok = tt;
      err = if_some s.remaining (λ bytes. AreBytes bytes → IsImageOf image.version (image_of image.parts) bytes) (λ bytes. AreBytes bytes → IsFaultOf bytes OutOfMemory) (λ bytes is are. tt) p.ok.bytes;
      rest = p.rest;
      failures = p.failures;
      ends = tt;
      within = p.within;
      each = p.each;
      spent = λ z. absurd (no_memory_left StoreData z);
    }

    -- the image of a store is loaded as a store that represents the same histories
    pub as_saved : (k : StoreData) → IsStoreOf (image_of image.parts) k → StandsAsSaved s k
    as_saved k made =
        if_some s.remaining (λ bytes. AreBytes bytes → IsImageOf image.version (image_of image.parts) bytes)
        (λ bytes. AreBytes bytes → (v : Version) (d : ImageData) (saved : StoreData) → IsImageOf v d bytes → IsPictureOf saved d → StaysFor saved k)
        (λ bytes is are v d saved im pic.
        let same = (are_unambiguous image.version (image_of image.parts) bytes (is are) p.ok.possible).1 v d im in
        pictured_stands saved k (image_of image.parts) (subst (IsPictureOf saved) same.1 pic) made.made)
        p.ok.bytes
