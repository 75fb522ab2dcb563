use Rattle.std.proofs.Common.{◌+◌, ◌≤◌, length}
use denote.Text.{Utf8}
use denote.Shadow.{shadow}
use Rattle.ts_store.specs.store.WholeStates.{WholeState, IsWholeStateOf}
use Rattle.ts_http.specs.Batches.{body_lines}
use Rattle.ts_http.proofs.BatchLemmas.{SoFar}
use Rattle.ts_http.proofs.batch.write_lines.Given as goal

abbrev pub invariant-loop-line : goal.invariant-loop-line
invariant-loop-line g l =
    shadow (Utf8 l.rest) × (l.tally.lines + length l.rest ≤ length l.fn.body) × (l.tally.dropped ≤ l.tally.lines)
    × ((s : WholeState) → IsWholeStateOf s l.initial.store → SoFar l.fn.precision l.fn.now s (body_lines l.fn.body) l.tally (body_lines l.rest) l.store)

abbrev pub decreases-loop-line : goal.decreases-loop-line
decreases-loop-line g l = length l.rest
