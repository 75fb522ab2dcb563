use Rattle.std.proofs.Common.{◌≡◌, ℕ, ◌+◌, ◌-◌, ◌≤◌, List, false}
use Rattle.ts_core.specs.io.Devices.{EachReadCounts}
use Rattle.ts_core.specs.io.ReadingAhead.{weight}
use Rattle.ts_script.specs.LineReading.{lines_to_come}
use Rattle.ts_script.proofs.LineScan.{SoFar}
use Rattle.ts_script.proofs.line_reader.LineReader.gather.Given as goal

abbrev pub invariant-loop-self : goal.invariant-loop-self
invariant-loop-self g l = record {
  so_far : (bytes : List ℕ) × SoFar (lines_to_come l.initial.self l.initial.source) (lines_to_come l.self l.source) bytes l.self.line l.self.long;
  going : l.self.ahead.ended ≡ false;
  allowed : l.self.ahead.limit ≡ l.initial.self.ahead.limit;
  less : weight l.self.ahead ≤ weight l.initial.self.ahead;
  failures : l.source.failures ≡ l.initial.source.failures;
  reads : l.source.reads + l.initial.self.ahead.reads ≡ l.initial.source.reads + l.self.ahead.reads;
  ends : l.source.ends ≡ l.initial.source.ends;
  each : EachReadCounts l.initial.source l.source;
}

abbrev pub decreases-loop-self : goal.decreases-loop-self
decreases-loop-self g l = l.initial.self.ahead.limit - l.self.ahead.reads
