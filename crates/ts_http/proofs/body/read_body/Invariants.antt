use Rattle.std.proofs.Common.{◌≡◌, ◌+◌, ◌-◌, ◌≤◌, ◌++◌, length, take}
use Rattle.std.specs.Io.KnownBytes.{Consumes}
use Rattle.ts_core.specs.facts.Facts.{Text}
use Rattle.ts_core.specs.io.Devices.{EachReadCounts}
use Rattle.ts_http.proofs.body.read_body.Given as goal

abbrev pub invariant-loop-have : goal.invariant-loop-have
invariant-loop-have g l = record {
  within : l.have ≤ length l.body;
  size : length l.body ≡ length l.initial.body;
  came : (got : Text) × (take l.have l.body ≡ take l.initial.have l.initial.body ++ got) × (l.have ≡ l.initial.have + length got) × Consumes l.initial.source.remaining l.source.remaining got;
  ends : l.source.ends ≡ l.initial.source.ends;
  failures : l.source.failures ≡ l.initial.source.failures;
  reads : l.source.reads + l.initial.have ≤ l.initial.source.reads + l.have;
  each : EachReadCounts l.initial.source l.source;
}

abbrev pub decreases-loop-have : goal.decreases-loop-have
decreases-loop-have g l = length l.initial.body - l.have
