-- The table of all faults, and its row of one number. (Own rule.)
use Rattle.std.specs.Prelude.{Bool, true, ◌++◌, map, filter, codes, Option, Some, None}
use Rattle.std.specs.Fmt.{decimal}
use Rattle.std.specs.List.{concat}
use Rattle.ts_core.specs.facts.Facts.{Text, same_text}
use Rattle.ts_core.specs.text.FaultCodes.{code_number, code_message, all_codes}
use Rattle.ts_core.specs.declared.text.fault_code.FaultCode.{FaultCode}
use Rattle.ts_script.specs.ScriptReplies.{line}

-- a row is wanted if these are its digits, or if no number is requested
abbrev pub is_wanted : Option Text → Text → Bool
is_wanted None digits = true
is_wanted (Some number) digits = same_text digits number

abbrev pub is_listed : Option Text → FaultCode → Bool
is_listed number code = is_wanted number (decimal (code_number code))

-- a fault's number and its description
abbrev pub fault_row : FaultCode → Text
fault_row code = line (decimal (code_number code) ++ (codes " " ++ code_message code))

unfoldable pub fault_table : Option Text → Text
fault_table number = concat (map fault_row (filter (is_listed number) all_codes))
