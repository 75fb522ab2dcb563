use Rattle.std.proofs.Common.{◌≤◌, ◌-◌, length}
use Rattle.ts_image.specs.FieldReading.{CallsSource, UsesBytes}
use Rattle.ts_image.proofs.Reading.{nothing_yet}
use Rattle.ts_image.proofs.read.fields.FieldReader.read_string.Given as goal

abbrev pub invariant-loop-self : goal.invariant-loop-self
invariant-loop-self g l = record {
  used : UsesBytes l.initial.self l.initial.source l.bytes.items l.self l.source;
  few : length l.bytes.items ≤ l.length;
  calls : CallsSource l.initial.self.ahead l.initial.source nothing_yet l.self.ahead l.source;
}

abbrev pub decreases-loop-self : goal.decreases-loop-self
decreases-loop-self g l = l.length - length l.bytes.items
