-- The first store of a script or of a service. (Own rule.)
use Rattle.std.specs.Prelude.{◌≡◌, ⊤, Result, Ok, Err}
use Rattle.ts_core.specs.facts.Facts.{Text}
use Rattle.ts_core.specs.settings.Settings.{Settings}
use Rattle.ts_core.specs.settings.SettingsTexts.{settings_read}
use Rattle.ts_core.specs.store.StoreData.{StoreData, new_data}
use Rattle.ts_core.specs.declared.settings.settings_fault.SettingsError.{SettingsError}
use Rattle.ts_core.specs.declared.settings.settings_fault.SettingsError.TheVariants.{Fault, OutOfMemory}
use Rattle.ts_store.specs.store.Inventories.{inventory_of, new_inventory}
use Rattle.ts_store.specs.write.LineTexts.{IsStateOf, opened}

-- an empty store with the settings of a text
abbrev pub IsNew : Text → StoreData → Type 0
IsNew text store = (settings : Settings) × (settings_read text ≡ Ok settings) × (store ≡ new_data settings)

-- an empty store with the settings of the text, or their first error, or out of memory
abbrev pub IsOpening : Text → Result StoreData SettingsError → Type 0
IsOpening text (Ok k) = (settings : Settings)
    × (settings_read text ≡ Ok settings) × IsStateOf (opened settings) k × (inventory_of k ≡ new_inventory settings)
IsOpening text (Err (Fault fault)) = settings_read text ≡ Err fault
IsOpening text (Err OutOfMemory) = ⊤
