use Rattle.std.proofs.Common.{◌≡◌, ◌-◌, ◌≤◌, length, [], IsCharBoundary}
use Rattle.ts_line.specs.Ends.{pairs_at}
use Rattle.ts_line.specs.TagParts.{tags_at}
use Rattle.ts_line.proofs.EndLemmas.{AreBefore}
use Rattle.ts_line.proofs.ends.tags_end.Given as goal

abbrev pub invariant-loop-at : goal.invariant-loop-at
invariant-loop-at l = record {
  boundary : IsCharBoundary l.line l.at;
  few : l.count ≤ 64;
  before : AreBefore l.count l.line l.start l.at;
  value : tags_at (65 - l.count) (pairs_at l.count l.line l.start) l.line l.at ≡ tags_at 65 [] l.line l.start;
}

abbrev pub decreases-loop-at : goal.decreases-loop-at
decreases-loop-at l = length l.line - l.at
