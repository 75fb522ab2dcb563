-- The fault of an image that a fault of a field is. (Own rules.)
use Rattle.ts_image.specs.declared.field_fault.FieldFault.{FieldFault}
use Rattle.ts_image.specs.declared.field_fault.FieldFault.TheVariants as field
use Rattle.ts_image.specs.declared.load_fault.LoadFault.{LoadFault}
use Rattle.ts_image.specs.declared.load_fault.LoadFault.TheVariants.{Misshapen, Device, TooManyReads, OutOfMemory}

abbrev pub load_fault_of : FieldFault → LoadFault
load_fault_of (field.Misshapen n) = Misshapen n
load_fault_of field.Device = Device
load_fault_of field.TooManyReads = TooManyReads
load_fault_of field.OutOfMemory = OutOfMemory
