-- Faults of bytes that aren't the image of a store. (Own rules.)
use Rattle.std.specs.Prelude.{◌≡◌, ◌≢◌, ◌⊎◌, ℕ, List, ◌∷◌, ◌++◌, take}
use Rattle.ts_image.specs.declared.load_fault.LoadFault.{LoadFault}
use Rattle.ts_image.specs.declared.load_fault.LoadFault.TheVariants.{NotAnImage, OtherVersion, Misshapen, Contradiction, Device, TooManyReads, OutOfMemory}
use Rattle.ts_image.specs.FormatLaws.{IsMisshapen}
use Rattle.ts_image.specs.declared.version.Version.{Version}
use Rattle.ts_image.specs.Images.{ImageData, image, image_mark, version_byte, image_text, body}
use Rattle.ts_image.specs.ImageTests.{IsPossible}

-- the bytes are the image of this data
pub record IsImageOf (v : Version) (d : ImageData) (bytes : List ℕ) : Type 0 where
  pub fits : (image v).fits d
  pub text : bytes ≡ image_text v d

-- the bytes have this fault
abbrev pub IsFaultOf : List ℕ → LoadFault → Type 0
-- they don't begin as an image does
IsFaultOf bytes NotAnImage = take 4 bytes ≢ image_mark
-- they are of another version
IsFaultOf bytes OtherVersion = (b : ℕ) × (rest : List ℕ) × (bytes ≡ image_mark ++ (b ∷ rest)) × (b ≢ 1) × (b ≢ 2)
-- they aren't of the form; the version's byte may be missing
IsFaultOf bytes (Misshapen n) = ((bytes ≡ image_mark) × (n ≡ 4))
    ⊎ ((v : Version) × (rest : List ℕ) × (bytes ≡ image_mark ++ (version_byte v ∷ rest))
    × IsMisshapen (image v) (body rest) n)
-- they are of the form and contradictory
IsFaultOf bytes Contradiction = (v : Version) × (d : ImageData) × IsImageOf v d bytes × (IsPossible v d → ⊥)
-- errors of devices, of limits and of memory don't depend on the bytes
IsFaultOf bytes Device = Unit {0}
IsFaultOf bytes TooManyReads = Unit {0}
IsFaultOf bytes OutOfMemory = Unit {0}

-- the fault is one of the bytes
abbrev pub IsOfBytes : LoadFault → Type 0
IsOfBytes NotAnImage = Unit {0}
IsOfBytes OtherVersion = Unit {0}
IsOfBytes (Misshapen n) = Unit {0}
IsOfBytes Contradiction = Unit {0}
IsOfBytes Device = ⊥
IsOfBytes TooManyReads = ⊥
IsOfBytes OutOfMemory = ⊥

-- an image without contradictions has no fault, and is of no other version and no other data
abbrev pub AreUnambiguous : Type 0
AreUnambiguous = (v : Version) (d : ImageData) (bytes : List ℕ) → IsImageOf v d bytes → IsPossible v d →
    ((fault : LoadFault) → IsOfBytes fault → IsFaultOf bytes fault → ⊥)
    × ((w : Version) (e : ImageData) → IsImageOf w e bytes → (w ≡ v) × (e ≡ d))
