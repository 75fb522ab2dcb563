use Rattle.std.proofs.Common.{length, ◌-◌, ◌≡◌, ◌≤◌, ◌++◌, slice_range, drop, string_bytes, IsCharBoundary}
use Rattle.ts_line.specs.PartTexts.{unescaped}
use Rattle.ts_line.proofs.part.unescaped.Given as goal

abbrev pub invariant-loop-at : goal.invariant-loop-at
invariant-loop-at g l = record {
  from : l.from ≤ l.at;
  within : l.at ≤ length l.bytes;
  boundary : IsCharBoundary l.raw l.from;
  text : string_bytes l.text ++ slice_range l.raw l.from l.at ++ unescaped l.stops (drop l.at l.raw) ≡ unescaped l.stops l.raw;
}

abbrev pub decreases-loop-at : goal.decreases-loop-at
decreases-loop-at g l = length l.bytes - l.at
