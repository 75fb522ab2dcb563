-- The report of an inspection that fails, and its exit status. (Own rule.)
use Rattle.std.specs.Prelude.{◌≡◌, ◌⊎◌, ◌++◌, ℕ, codes}
use Rattle.ts_core.specs.facts.Facts.{Text}
use Rattle.tsdb.specs.Services.{load_line}
use Rattle.tsdb.specs.declared.inspect_fault.InspectFault.{InspectFault}
use Rattle.tsdb.specs.declared.inspect_fault.InspectFault.TheVariants.{Image, Name, Device, OutOfMemory}

-- 3 when out of memory, otherwise 1
abbrev pub inspect_status : InspectFault → ℕ
inspect_status OutOfMemory = 3
inspect_status other = 1

-- 0, or that of a fault; which of them depends on the file and standard output
abbrev pub IsInspectStatus : ℕ → Type 0
IsInspectStatus status = (status ≡ 0) ⊎ ((fault : InspectFault) × (status ≡ inspect_status fault))

-- the line for standard error, without a cause; of an image at fault it is that of `tsdb serve`
abbrev pub inspect_line : Text → InspectFault → Text
inspect_line image (Image fault) = load_line image fault
inspect_line image Name = codes "tsdb: " ++ (image ++ codes ": a name of it can't stand in a line")
inspect_line image Device = codes "tsdb: standard output could not be written"
inspect_line image OutOfMemory = codes "tsdb: out of memory"
