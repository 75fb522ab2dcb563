-- The rows of the table of faults, by number. (Own rule.)
use Rattle.std.specs.Prelude.{ℕ, Bool, [], if◌then◌else◌}
use Rattle.std.specs.Option.{option_map_or}
use Rattle.ts_core.specs.facts.Facts.{Text}
use Rattle.ts_core.specs.text.FaultCodes.{code_of_number}
use Rattle.ts_core.specs.declared.text.fault_code.FaultCode.{FaultCode}
use Rattle.tsdb.specs.FaultTables.{fault_row}

-- the row of a fault, if it is requested
abbrev pub row_where : (FaultCode → Bool) → FaultCode → Text
row_where requested code = if requested code then fault_row code else []

-- the row of the fault with this number, if it exists
abbrev pub requested_row : (FaultCode → Bool) → ℕ → Text
requested_row requested number = option_map_or (row_where requested) (code_of_number number) []
