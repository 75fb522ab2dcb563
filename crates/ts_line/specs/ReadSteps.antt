-- The result of a parser's step: a value, or the first error. (Own rules.)
use Rattle.std.specs.Prelude.{◌≡◌, Result, Ok, Err, ⊤}
use Rattle.ts_line.specs.declared.fault.LineFault.{LineFault}
use Rattle.ts_line.specs.declared.fault.ReadLineError.{ReadLineError}
use Rattle.ts_line.specs.declared.fault.ReadLineError.TheVariants as errors

-- a failing call returns the step's error, unless it ran out of memory
abbrev pub FailsIfMemory : {Y : Type 0} → ReadLineError → Result Y LineFault → Type 0
FailsIfMemory errors.OutOfMemory read = ⊤
FailsIfMemory (errors.Fault f) read = read ≡ Err f

-- a call returns the step's result, seen through `view`, unless it ran out of memory
abbrev pub GivesIfMemory : {X Y : Type 0} → (X → Y) → Result X ReadLineError → Result Y LineFault → Type 0
GivesIfMemory view (Ok x) read = read ≡ Ok (view x)
GivesIfMemory view (Err e) read = FailsIfMemory e read
