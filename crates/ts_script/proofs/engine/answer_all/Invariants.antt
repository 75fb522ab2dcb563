use Rattle.std.proofs.Common.{◌≡◌, ◌+◌, ◌≤◌, string_capacity}
use Rattle.ts_script.specs.declared.reply.TheConstants.{TEXT_CAPACITY}
use Rattle.ts_core.specs.io.Devices.{EachReadCounts}
use Rattle.ts_core.specs.io.ReadingAhead.{bit, weight}
use Rattle.ts_script.specs.LineReading.{lines_to_come, EndIsOver}
use Rattle.ts_script.proofs.Progress.{Progress}
use Rattle.ts_script.proofs.engine.answer_all.Given as goal

abbrev pub invariant-loop-lines : goal.invariant-loop-lines
invariant-loop-lines g l = record {
  progress : Progress l.initial.source.remaining (lines_to_come l.lines l.source) l.lines.ahead.ended l.initial.sink.contents l.sink.contents l.answers l.machine;
  over : EndIsOver l.lines.ahead l.source;
  reads : l.source.reads ≡ l.initial.source.reads + l.lines.ahead.reads;
  allowed : l.lines.ahead.limit ≡ l.initial.lines.ahead.limit;
  within : l.lines.ahead.reads ≤ l.lines.ahead.limit;
  each : EachReadCounts l.initial.source l.source;
  ends : l.source.ends ≡ l.initial.source.ends + bit l.lines.ahead.ended;
  reader : l.source.failures ≡ l.initial.source.failures;
  writer : l.sink.failures ≡ l.initial.sink.failures;
  spare : TEXT_CAPACITY ≤ string_capacity l.text;
}

abbrev pub decreases-loop-lines : goal.decreases-loop-lines
decreases-loop-lines g l = weight l.lines.ahead
