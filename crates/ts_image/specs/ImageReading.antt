-- The value of an image that the code reads, and the effect of reading one. (Own rules.)
use Rattle.std.specs.Prelude.{◌≡◌, ◌≢◌, ℕ, ◌+◌, ◌≤◌, true, Result, Ok, Err, IfOk, IfErr, IfSome}
use Rattle.std.specs.Io.KnownBytes.{IsAtEnd}
use Rattle.ts_core.specs.io.Devices.{Input, EachReadCounts}
use Rattle.ts_image.specs.declared.version.Version.{Version}
use Rattle.ts_image.specs.declared.field_fault.FieldFault.{FieldFault}
use Rattle.ts_image.specs.declared.field_fault.FieldFault.TheVariants as field
use Rattle.ts_image.specs.declared.load_fault.LoadFault.{LoadFault}
use Rattle.ts_image.specs.declared.load_fault.LoadFault.TheVariants.{NotAnImage, OtherVersion, Misshapen, Contradiction, Device, TooManyReads, OutOfMemory}
use Rattle.ts_image.specs.declared.read.image.ImageParts.{ImageParts}
use Rattle.ts_image.specs.Formats.{Format, read_whole}
use Rattle.ts_image.specs.FormatLaws.{AreBytes}
use Rattle.ts_image.specs.Images.{ImageData}
use Rattle.ts_image.specs.FieldReading.{FieldsRead, cursor_of, IsKnown, CallsSource}
use Rattle.ts_image.specs.RuleParts.{settings_of_parts}
use Rattle.ts_image.specs.SeriesParts.{all_series_of}
use Rattle.ts_image.specs.CellParts.{marks_of_parts, all_cells_of}
use Rattle.ts_image.specs.ImageFaults.{IsImageOf, IsFaultOf}

abbrev pub image_of : {A : Type 0} → ImageParts A → ImageData
image_of i = record {
  settings = settings_of_parts i.settings;
  marks = marks_of_parts i.marks;
  runs = i.runs;
  accepted = i.accepted;
  series = all_series_of i.series;
  cells = all_cells_of i.cells;
}

-- the view of a call's result is the reading of all bytes that are left
abbrev pub GivesWhole : {X Y : Type 0} → (X → Y) → Result X FieldFault → Result Y ℕ → Type 0
GivesWhole view (Ok x) read = read ≡ Ok (view x)
GivesWhole view (Err (field.Misshapen n)) read = read ≡ Err n
GivesWhole view (Err field.Device) read = Unit {0}
GivesWhole view (Err field.TooManyReads) read = Unit {0}
GivesWhole view (Err field.OutOfMemory) read = Unit {0}

-- reads a value up to the end of the input
pub record ReadsWhole {X Y : Type 0} (format : Format Y) (view : X → Y) (old : FieldsRead)
    (source : Input) (result : Result X FieldFault) (new : FieldsRead) (source' : Input) : Type 0 where
  pub value : IsKnown old source → GivesWhole view result (read_whole format (cursor_of old source))
  pub ended : IfOk result (λ x. new.ahead.ended ≡ true)
  pub calls : CallsSource old.ahead source result new.ahead source'

-- the number of failures that a call adds to its source's
abbrev pub one_if_device_failed : {T : Type 0} → Result T LoadFault → ℕ
one_if_device_failed (Ok x) = 0
one_if_device_failed (Err NotAnImage) = 0
one_if_device_failed (Err OtherVersion) = 0
one_if_device_failed (Err (Misshapen n)) = 0
one_if_device_failed (Err Contradiction) = 0
one_if_device_failed (Err Device) = 1
one_if_device_failed (Err TooManyReads) = 0
one_if_device_failed (Err OutOfMemory) = 0

-- a source is read to its end with a wanted result, or it has this fault
pub record Loads {T : Type 0} (IsWanted : T → Type 0)
    (source : Input) (reads : ℕ) (result : Result T LoadFault) (source' : Input) : Type 0 where
  pub ok : IfOk result IsWanted
  pub err : IfErr result (λ e. IfSome source.remaining (λ bytes. AreBytes bytes → IsFaultOf bytes e))
  -- once the end was read, the source has no byte left
  pub rest : source'.ends ≢ source.ends → IsAtEnd source'.remaining
  -- a read failed exactly if the fault is `Device`
  pub failures : source'.failures ≡ source.failures + one_if_device_failed result
  -- the end was read
  pub ends : IfOk result (λ r. source'.ends ≡ source.ends + 1)
  pub within : source'.reads ≤ source.reads + reads
  -- so the limit of reads is met only by as many bytes and failures
  pub each : EachReadCounts source source'
  -- all allowed reads saw no end
  pub spent : result ≡ Err TooManyReads → (source'.reads ≡ source.reads + reads) × (source'.ends ≡ source.ends)

-- the source had the bytes of this image
abbrev pub HadImage : Input → Version → ImageData → Type 0
HadImage source v d = IfSome source.remaining (λ bytes. AreBytes bytes → IsImageOf v d bytes)

-- reads an image up to its form
abbrev pub LoadsParts : {A : Type 0} → Input → ℕ → Result (Version × ImageParts A) LoadFault → Input → Type 0
LoadsParts source reads result source' = Loads (λ r. HadImage source r.0 (image_of r.1)) source reads result source'
