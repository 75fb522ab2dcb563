-- Reading a line against spelling it, and the texts that need memory. (Own rules.)
use Rattle.std.specs.Prelude.{◌≡◌, ℤ, Option, Some, IfSome, Result, Ok, Err, IfOk}
use Rattle.ts_core.specs.facts.Facts.{Text}
use Rattle.ts_line.specs.declared.fault.ReadLineError.{ReadLineError}
use Rattle.ts_line.specs.declared.fault.ReadLineError.TheVariants as errors
use Rattle.ts_line.specs.Lines.{line_of}
use Rattle.ts_line.specs.Parts.{Parts}
use Rattle.ts_line.specs.ReadSteps.{GivesIfMemory}
use Rattle.ts_line.specs.Spelling.{IsSpelling}

-- a line that is read is a spelling of its parts, and each spelling is read as its parts, unless memory runs out
pub record IsReadAsSpelled (unit now : ℤ) (source : Text) (result : Result (Option Parts) ReadLineError) : Type 0 where
  pub told : IfOk result (λ o. IfSome o (IsSpelling unit now source))
  pub only : (parts : Parts) → IsSpelling unit now source parts → GivesIfMemory (λ o. o) result (Ok (Some parts))

-- the text needs memory: it is a line without an error
pub record NeedsMemory (unit now : ℤ) (source : Text) : Type 0 where
  pub parts : Parts
  pub read : line_of unit now source ≡ Ok (Some parts)

-- the fact holds if the call ran out of memory
abbrev pub IfOutOfMemory : {X : Type 0} → Result X ReadLineError → Type 0 → Type 0
IfOutOfMemory (Ok x) Fact = Unit {0}
IfOutOfMemory (Err (errors.Fault f)) Fact = Unit {0}
IfOutOfMemory (Err errors.OutOfMemory) Fact = Fact
