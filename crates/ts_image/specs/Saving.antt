-- The image of a store, as it is written. (Own rules.)
use Rattle.std.specs.Prelude.{◌≡◌, ◌+◌, ◌<◌, ◌^◌, ℕ, FitsSigned, slice_index_or, List, [], map, length, Result, Ok, Err, OnOk}
use Rattle.std.specs.Int.{w64}
use Rattle.std.specs.List.{AllByRecursion}
use Rattle.std.specs.Io.KnownBytes.{Appends}
use Rattle.ts_core.specs.settings.Settings.{Rule}
use Rattle.ts_core.specs.store.RawFacts.{is_waiting}
use Rattle.ts_core.specs.store.StoreStates.{ColumnPoints, column_of}
use Rattle.ts_core.specs.store.StoreData.{RuleData, StoreData, store_settings, store_marks}
use Rattle.ts_core.specs.io.ReadingAhead.{bit}
use Rattle.ts_core.specs.io.Devices.{Output, AppendsFront}
use Rattle.ts_store.specs.image.SavedContent.{SavedColumn, SavedSeries, SavesSeries, FrozenCell, frozen_from}
use Rattle.ts_store.specs.read.ViewResults.{no_points}
use Rattle.ts_image.specs.declared.save_fault.SaveFault.{SaveFault}
use Rattle.ts_image.specs.declared.save_fault.SaveFault.TheVariants.{Device, OutOfMemory}
use Rattle.ts_image.specs.declared.version.Version.TheVariants.{V2}
use Rattle.ts_image.specs.SavedParts.{image_settings_of, image_cell_with}
use Rattle.ts_image.specs.Images.{ImageColumn, ImageSeries, ImageCell, ImageData, image, image_text}

-- ---- the data

abbrev pub image_cell_of : FrozenCell → ImageCell
image_cell_of c = image_cell_with c.cell c.frozen

-- the saved cells of each rule, and their numbers
abbrev pub saved_cells : StoreData → List (List FrozenCell)
saved_cells k = map (λ (r : RuleData). frozen_from r.low r.cells) k.rules

abbrev pub saved_cells_at : StoreData → ℕ → List FrozenCell
saved_cells_at k n = slice_index_or (saved_cells k) n []

abbrev pub cell_counts : StoreData → List ℕ
cell_counts k = map length (saved_cells k)

abbrev pub column_at : StoreData → SavedColumn → ColumnPoints
column_at k c = slice_index_or k.columns c.number no_points

abbrev pub image_column_of : StoreData → SavedColumn → ImageColumn
image_column_of k c = record {
  field = c.field;
  waits = bit (is_waiting k.waiting (column_at k c).column);
  points = (column_at k c).points;
}

abbrev pub image_series_of : StoreData → SavedSeries → ImageSeries
image_series_of k s = record { series = s.series; columns = map (image_column_of k) s.columns }

-- the columns of a series are among those of the store
abbrev pub HasItsColumns : StoreData → SavedSeries → Type 0
HasItsColumns k s = AllByRecursion (λ (c : SavedColumn). c.number < length k.columns) s.columns

-- all data of a store, with its series and columns in this order
abbrev pub store_image : StoreData → List SavedSeries → ImageData
store_image k saved = record {
  settings = image_settings_of (store_settings k);
  marks = store_marks k;
  runs = bit k.running;
  accepted = k.accepted;
  series = map (image_series_of k) saved;
  cells = map (map image_cell_of) (saved_cells k);
}

-- ---- requirements of the form, which each store meets

-- the index fits in 64 bits, and the group has a value for each kept tag
pub record FitsCell (r : Rule) (c : FrozenCell) : Type 0 where
  pub index : FitsSigned w64 c.cell.index
  pub group : length c.cell.group ≡ length r.kept_tags

-- the saved cells of each rule fit
abbrev pub FitCells : StoreData → Type 0
FitCells k = AllByRecursion (λ (r : RuleData). AllByRecursion (FitsCell r.rule) (frozen_from r.low r.cells)) k.rules

-- each series has few tags, and there are few series
pub record FitSeries (all : List SavedSeries) : Type 0 where
  pub few : length all < 2 ^ 32
  pub each : AllByRecursion (λ (s : SavedSeries). length s.series.tags < 256) all

-- ---- saving

-- the number of failures that a call adds to its sink's
abbrev pub one_if_device_fault : {T : Type 0} → Result T SaveFault → ℕ
one_if_device_fault (Ok x) = 0
one_if_device_fault (Err Device) = 1
one_if_device_fault (Err OutOfMemory) = 0

-- the series and columns of a store in the image's order
abbrev pub IsOrder : StoreData → List SavedSeries → Type 0
IsOrder k order = SavesSeries k.series (map column_of k.columns) order

-- Writes the image of a store in version 2. After a device error, a prefix of it was written. When out of memory,
-- nothing was written.
pub record IsSaved {T : Type 0}
    (k : StoreData) (old : Output) (result : Result T SaveFault) (new : Output) : Type 0 where
  pub ok : OnOk result ((order : List SavedSeries) × IsOrder k order
      × (image V2).fits (store_image k order) × Appends old.contents new.contents (image_text V2 (store_image k order)))
  pub device : result ≡ Err Device → (order : List SavedSeries)
      × IsOrder k order × AppendsFront old.contents new.contents (image_text V2 (store_image k order))
  pub memory : result ≡ Err OutOfMemory → new ≡ old
  pub failures : new.failures ≡ old.failures + one_if_device_fault result
