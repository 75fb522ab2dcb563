-- Messages of the errors of images. (Own rule.)
use Rattle.ts_core.specs.facts.Facts.{Text}
use Rattle.ts_core.specs.text.FaultTexts.{fault_text, memory_text}
use Rattle.ts_core.specs.declared.text.fault_code.FaultCode.TheVariants as code
use Rattle.ts_core.specs.declared.text.fault_text.FaultDetail.TheVariants.{Alone, At}
use Rattle.ts_image.specs.declared.load_fault.LoadFault.{LoadFault}
use Rattle.ts_image.specs.declared.load_fault.LoadFault.TheVariants as loading
use Rattle.ts_image.specs.declared.save_fault.SaveFault.{SaveFault}
use Rattle.ts_image.specs.declared.save_fault.SaveFault.TheVariants as saving

unfoldable pub load_fault_text : LoadFault → Text
load_fault_text loading.NotAnImage = fault_text code.NotAnImage Alone
load_fault_text loading.OtherVersion = fault_text code.ImageVersion Alone
load_fault_text (loading.Misshapen at) = fault_text code.BrokenImage (At at)
load_fault_text loading.Contradiction = fault_text code.ContradictoryImage Alone
load_fault_text loading.Device = fault_text code.ImageDevice Alone
load_fault_text loading.TooManyReads = fault_text code.EndlessImage Alone
load_fault_text loading.OutOfMemory = memory_text

unfoldable pub save_fault_text : SaveFault → Text
save_fault_text saving.Device = fault_text code.ImageDevice Alone
save_fault_text saving.OutOfMemory = memory_text
