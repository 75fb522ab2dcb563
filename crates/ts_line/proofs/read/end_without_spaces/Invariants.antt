use Rattle.std.proofs.Common.{◌≡◌, IsCharBoundary}
use Rattle.ts_line.specs.Lines.{trimmed}
use Rattle.ts_line.proofs.read.end_without_spaces.Given as goal

abbrev pub invariant-loop-end : goal.invariant-loop-end
invariant-loop-end l = IsCharBoundary l.line l.end × (trimmed l.line l.end ≡ trimmed l.line l.from)

abbrev pub decreases-loop-end : goal.decreases-loop-end
decreases-loop-end l = l.end
