-- The first store of a service, and its report if it can't begin or isn't saved. (Own rule.)
use Rattle.std.specs.Prelude.{◌≡◌, ◌⊎◌, ◌^◌, ◌++◌, ℕ, codes, Ok}
use Rattle.std.specs.Fmt.{decimal}
use Rattle.ts_core.specs.facts.Facts.{Text}
use Rattle.ts_core.specs.io.Devices.{Input}
use Rattle.ts_core.specs.settings.SettingsFaults.{rule_fault_code, settings_fault_text}
use Rattle.ts_core.specs.store.StoreData.{StoreData}
use Rattle.ts_core.specs.text.FaultCodes.{code_message}
use Rattle.ts_core.specs.declared.settings.settings_fault.SettingsFault.{SettingsFault}
use Rattle.ts_core.specs.declared.settings.settings_fault.SettingsFault.TheVariants as faults
use Rattle.ts_core.specs.declared.text.fault_code.FaultCode.TheVariants as code
use Rattle.ts_image.specs.ImageFaultTexts.{load_fault_text, save_fault_text}
use Rattle.ts_image.specs.ImageLoading.{LoadsStore}
use Rattle.ts_image.specs.declared.load_fault.LoadFault.{LoadFault}
use Rattle.ts_image.specs.declared.load_fault.LoadFault.TheVariants as loading
use Rattle.ts_image.specs.declared.save_fault.SaveFault.{SaveFault}
use Rattle.ts_image.specs.declared.save_fault.SaveFault.TheVariants as saving
use Rattle.tsdb.specs.declared.command_line.Service.{Service}
use Rattle.tsdb.specs.declared.service_fault.ServiceFault.{ServiceFault}
use Rattle.tsdb.specs.declared.service_fault.ServiceFault.TheVariants.{NoSettings, Settings as WrongSettings, Image, InUse, NoPort, NotSaved, OutOfMemory}

-- a store that is loaded from the bytes of some file
abbrev pub IsFromImage : StoreData → Type 0
IsFromImage store = (source source' : Input) × LoadsStore source (2 ^ 32) (Ok store) source'

-- 3 when out of memory, otherwise 1
abbrev pub service_status : ServiceFault → ℕ
service_status OutOfMemory = 3
service_status other = 1

-- 0, or that of a fault; which of them depends on files and sockets
abbrev pub IsServiceStatus : ℕ → Type 0
IsServiceStatus status = (status ≡ 0) ⊎ ((fault : ServiceFault) × (status ≡ service_status fault))

-- ---- the lines for standard error

-- the words of a fault are those of the table of faults
abbrev pub settings_words : SettingsFault → Text
settings_words faults.Form = code_message code.BadSettingsText
settings_words faults.TooManyRules = code_message code.TooManyRules
settings_words (faults.OfRule fault index) = code_message (rule_fault_code fault)

abbrev pub load_words : LoadFault → Text
load_words loading.NotAnImage = code_message code.NotAnImage
load_words loading.OtherVersion = code_message code.ImageVersion
load_words (loading.Misshapen at) = code_message code.BrokenImage
load_words loading.Contradiction = code_message code.ContradictoryImage
load_words loading.Device = code_message code.ImageDevice
load_words loading.TooManyReads = code_message code.EndlessImage
load_words loading.OutOfMemory = codes "out of memory"

abbrev pub save_words : SaveFault → Text
save_words saving.Device = code_message code.ImageDevice
save_words saving.OutOfMemory = codes "out of memory"

-- a file, a fault with its number, and its words
abbrev pub file_line : Text → Text → Text → Text
file_line file fault words = codes "tsdb: " ++ (file ++ (codes ": " ++ (fault ++ (codes ": " ++ words))))

-- the line of a load that failed
abbrev pub load_line : Text → LoadFault → Text
load_line image fault = file_line image (load_fault_text fault) (load_words fault)

-- the line of a save that failed
abbrev pub save_line : Text → SaveFault → Text
save_line image fault = file_line image (save_fault_text fault) (save_words fault)

-- the line for standard error, without a cause; it names the file or the port that is at fault
abbrev pub service_line : Service → ServiceFault → Text
service_line service NoSettings = codes "tsdb: " ++ (service.settings.now ++ codes ": the settings could not be read")
service_line service (WrongSettings fault) =
    file_line service.settings.now (settings_fault_text fault) (settings_words fault)
service_line service (Image fault) = load_line service.image.now fault
service_line service InUse = codes "tsdb: " ++ (service.image.now ++ codes ": another tsdb serves this image")
service_line service NoPort =
    codes "tsdb: port " ++ (decimal service.port ++ codes " of 127.0.0.1 could not be listened on")
service_line service (NotSaved fault) = save_line service.image.now fault
service_line service OutOfMemory = codes "tsdb: out of memory"
