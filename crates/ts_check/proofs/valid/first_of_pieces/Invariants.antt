use Rattle.std.proofs.Common.{◌≡◌, drop}
use Rattle.ts_core.specs.plans.Faults.{pieces_fault}
use Rattle.ts_check.proofs.valid.first_of_pieces.Given as goal

abbrev pub invariant-loop-number : goal.invariant-loop-number
invariant-loop-number g l = pieces_fault l.query_context l.number (drop l.number l.pieces) ≡ pieces_fault l.query_context 0 l.pieces
