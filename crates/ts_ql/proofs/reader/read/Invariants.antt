use Rattle.std.proofs.Common.{◌≡◌, ◌+◌, ◌-◌, length, IsCharBoundary}
use Rattle.ts_ql.specs.Reading.{read_on, progress, start_progress}
use Rattle.ts_ql.proofs.Rests.{Sound}
use Rattle.ts_ql.proofs.SelectsLemmas.{SelectsSo}
use Rattle.ts_ql.proofs.SumBounds.{IsAfter}
use Rattle.ts_ql.proofs.reader.read.Given as goal

abbrev pub invariant-loop-round : goal.invariant-loop-round
invariant-loop-round g l = record {
  boundary : IsCharBoundary l.text l.at;
  start : IsCharBoundary l.text l.reader.start;
  reads : read_on ((length l.text + 1) - l._round) l.now l.text (progress l.reader) l.at ≡ read_on (length l.text + 1) l.now l.text start_progress 0;
  moment : IsAfter l.now l._round (progress l.reader);
  sound : Sound (progress l.reader);
  columns : SelectsSo l.text l.at (progress l.reader);
}
