-- Reading the first fields of an image. (Own rules.)
use Rattle.std.specs.Prelude.{◌≡◌, ◌≢◌, ℕ, ◌+◌, List, ◌∷◌, ◌++◌, take, Result, Ok, Err}
use Rattle.ts_core.specs.io.Devices.{Input}
use Rattle.ts_image.specs.declared.field_fault.FieldFault.{FieldFault}
use Rattle.ts_image.specs.declared.field_fault.FieldFault.TheVariants.{Misshapen, Device, TooManyReads, OutOfMemory}
use Rattle.ts_image.specs.declared.read.image.Head.{Head}
use Rattle.ts_image.specs.declared.read.image.Head.TheVariants as head
use Rattle.ts_image.specs.Formats.{Cursor}
use Rattle.ts_image.specs.Images.{image_mark, version_byte}
use Rattle.ts_image.specs.FieldReading.{FieldsRead, cursor_of, IsKnown, CallsSource}

-- the head read between two positions
abbrev pub GivesHead : Result Head FieldFault → Cursor → Cursor → Type 0
GivesHead (Ok (head.Of v)) p q = (p.rest ≡ image_mark ++ (version_byte v ∷ q.rest)) × (q.at ≡ p.at + 5)
GivesHead (Ok head.Other) p q = (b : ℕ) × (rest : List ℕ) × (p.rest ≡ image_mark ++ (b ∷ rest)) × (b ≢ 1) × (b ≢ 2)
GivesHead (Ok head.None) p q = take 4 p.rest ≢ image_mark
GivesHead (Err (Misshapen n)) p q = (p.rest ≡ image_mark) × (n ≡ p.at + 4)
GivesHead (Err Device) p q = Unit {0}
GivesHead (Err TooManyReads) p q = Unit {0}
GivesHead (Err OutOfMemory) p q = Unit {0}

-- the bytes to come stay known if it is an image
abbrev pub StaysKnown : Result Head FieldFault → FieldsRead → Input → Type 0
StaysKnown (Ok (head.Of v)) new source' = IsKnown new source'
StaysKnown (Ok head.Other) new source' = Unit {0}
StaysKnown (Ok head.None) new source' = Unit {0}
StaysKnown (Err e) new source' = Unit {0}

pub record ReadsImageHead (old : FieldsRead)
    (source : Input) (result : Result Head FieldFault) (new : FieldsRead) (source' : Input) : Type 0 where
  pub stays : IsKnown old source → StaysKnown result new source'
  pub value : IsKnown old source → GivesHead result (cursor_of old source) (cursor_of new source')
  pub calls : CallsSource old.ahead source result new.ahead source'
