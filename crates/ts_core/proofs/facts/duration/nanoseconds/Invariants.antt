use Rattle.std.proofs.Common.{◌≡◌, ◌≤◌, drop, slice_range}
use Rattle.ts_core.specs.facts.Durations.{added_up, duration_of}
use Rattle.ts_core.proofs.facts.duration.nanoseconds.Given as goal

abbrev pub invariant-loop-at : goal.invariant-loop-at
invariant-loop-at l = record {
  begun : l.name ≤ l.at;
  left : added_up l.sum l.number (slice_range l.text l.name l.at) (drop l.at l.text) ≡ duration_of l.text;
}
