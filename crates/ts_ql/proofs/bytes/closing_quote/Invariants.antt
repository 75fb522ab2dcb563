use Rattle.std.proofs.Common.{length, ◌-◌, ◌≡◌, ◌≤◌, drop}
use Rattle.ts_ql.specs.Lexing.{closing, closing_quote}
use Rattle.ts_ql.proofs.bytes.closing_quote.Given as goal

abbrev pub invariant-loop-i : goal.invariant-loop-i
invariant-loop-i l = (l.from ≤ l.i) × (closing l.quote l.escaped l.i (drop l.i l.bytes) ≡ closing_quote l.quote l.text l.from)

abbrev pub decreases-loop-i : goal.decreases-loop-i
decreases-loop-i l = length l.bytes - l.i
