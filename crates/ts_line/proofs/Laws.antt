-- The laws of a call's result.
use Rattle.std.proofs.Common.{ℤ, Option, Some, None, IfSome, Result, Ok, Err, IfOk, subst}
use Rattle.ts_core.specs.facts.Facts.{Text}
use Rattle.ts_line.specs.declared.fault.LineFault.{LineFault}
use Rattle.ts_line.specs.declared.fault.ReadLineError.{ReadLineError}
use Rattle.ts_line.specs.Parts.{Parts}
use Rattle.ts_line.specs.ReadSteps.{GivesIfMemory}
use Rattle.ts_line.specs.Lines.{line_of}
use Rattle.ts_line.specs.Spelling.{IsSpelling}
use Rattle.ts_line.proofs.SpellingRead.{spelling_read}
use Rattle.ts_line.proofs.SpellingFacts.{spelling_told}

-- the parts that were read spell the line
pub told_of : (unit now : ℤ) (source : Text) (r : Result (Option Parts) ReadLineError) → GivesIfMemory (λ o. o) r (line_of unit now source) → IfOk r (λ o. IfSome o (IsSpelling unit now source))
told_of unit now source (Ok None) e = tt
told_of unit now source (Ok (Some p)) e = spelling_told unit now source p e
told_of unit now source (Err f) e = tt

-- each spelling was read
pub read_of : (unit now : ℤ) (source : Text) (r : Result (Option Parts) ReadLineError) → GivesIfMemory (λ o. o) r (line_of unit now source) → (p : Parts) → IsSpelling unit now source p → GivesIfMemory (λ o. o) r (Ok (Some p))
read_of unit now source r e p s = subst (λ (x : Result (Option Parts) LineFault). GivesIfMemory (λ o. o) r x) (spelling_read unit now source p s) e
