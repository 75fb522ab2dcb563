use Rattle.std.proofs.Common.{length, ◌-◌, ◌≡◌, ◌≤◌, drop, IsCharBoundary}
use Rattle.ts_ql.specs.Lexing.{run_end, end_of_run}
use Rattle.ts_ql.proofs.bytes.end_of_run.Given as goal

abbrev pub invariant-loop-i : goal.invariant-loop-i
invariant-loop-i l = (l.from ≤ l.i) × IsCharBoundary l.bytes l.i × (run_end l.class l.i (drop l.i l.bytes) ≡ end_of_run l.class l.text l.from)

abbrev pub decreases-loop-i : goal.decreases-loop-i
decreases-loop-i l = length l.bytes - l.i
