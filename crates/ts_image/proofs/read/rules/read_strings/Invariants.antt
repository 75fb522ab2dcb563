use Rattle.std.proofs.Common.{◌-◌, map}
use Rattle.std.specs.Prelude.{string_bytes}
use Rattle.ts_image.specs.Formats.{text}
use Rattle.ts_image.proofs.Loops.{HasRead}
use Rattle.ts_image.proofs.read.rules.read_strings.Given as goal

abbrev pub invariant-loop : goal.invariant-loop
invariant-loop g l = HasRead text l.count (l.count - l.counter) (map string_bytes l.texts.items) l.initial.reader l.initial.source l.reader l.source
