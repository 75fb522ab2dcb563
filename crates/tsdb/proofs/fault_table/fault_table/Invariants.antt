use Rattle.std.proofs.Common.{◌≡◌, map, string_bytes}
use Rattle.std.specs.List.{concat, range_with_len}
use Rattle.ts_reply.specs.OutcomeViews.{given_text}
use Rattle.tsdb.specs.FaultNumbers.{requested_row}
use Rattle.tsdb.specs.FaultTables.{is_listed}
use Rattle.tsdb.proofs.fault_table.fault_table.Given as goal

abbrev pub invariant-loop-number : goal.invariant-loop-number
invariant-loop-number l = string_bytes l.text ≡ concat (map (requested_row (is_listed (given_text l.fn.requested))) (range_with_len 0 l.number))
