use Rattle.std.proofs.Common.{length, take, ◌-◌, ◌≡◌, ◌+◌, ◌<◌, ◌≤◌}
use Rattle.std.specs.Io.KnownBytes.{Consumes}
use Rattle.ts_core.specs.io.Devices.{EachReadCounts}
use Rattle.ts_http.specs.Heads.{head_limit, field_limit, IsUnfinishedHead}
use Rattle.ts_http.proofs.head.read_head.Given as goal

abbrev pub invariant-loop-count : goal.invariant-loop-count
invariant-loop-count g l = record {
  within : l.count ≤ length l.buffer;
  buffer : length l.buffer ≡ head_limit;
  spans : length l.spans ≡ field_limit;
  came : Consumes l.initial.source.remaining l.source.remaining (take l.count l.buffer);
  unfinished : 0 < l.count → IsUnfinishedHead (take l.count l.buffer);
  ends : l.source.ends ≡ l.initial.source.ends;
  failures : l.source.failures ≡ l.initial.source.failures;
  reads : l.source.reads ≤ l.initial.source.reads + l.count;
  each : EachReadCounts l.initial.source l.source;
}

abbrev pub decreases-loop-count : goal.decreases-loop-count
decreases-loop-count g l = length l.initial.buffer - l.count
