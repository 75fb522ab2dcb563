use Rattle.std.proofs.Common.{take}
use Rattle.ts_image.specs.FieldReading.{CallsSource, UsesBytes}
use Rattle.ts_image.proofs.Reading.{nothing_yet}
use Rattle.ts_image.proofs.read.fields.FieldReader.read_bytewise.Given as goal

abbrev pub invariant-loop-cursor : goal.invariant-loop-cursor
invariant-loop-cursor g l = record {
  used : UsesBytes l.initial.self l.initial.source (take l.cursor-index l.buffer) l.self l.source;
  calls : CallsSource l.initial.self.ahead l.initial.source nothing_yet l.self.ahead l.source;
}
