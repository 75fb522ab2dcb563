use Rattle.std.proofs.Common.{length, ◌-◌, ◌≡◌, ◌≤◌, drop, ◌+◌, slice_range, false}
use Rattle.std.specs.List.{list_any}
use Rattle.ts_line.specs.Scan.{is_stop, part_len, end_of}
use Rattle.ts_line.proofs.scan.end_at.Given as goal

abbrev pub invariant-loop-at : goal.invariant-loop-at
invariant-loop-at l = record {
  from : l.from ≤ l.at;
  within : l.at ≤ length l.bytes;
  length : l.at + part_len l.stops 0 (drop l.at l.bytes) ≡ end_of l.stops l.line l.from;
  escape : list_any (is_stop l.stops) (slice_range l.line l.from l.at) ≡ false;
}

abbrev pub decreases-loop-at : goal.decreases-loop-at
decreases-loop-at l = length l.bytes - l.at
