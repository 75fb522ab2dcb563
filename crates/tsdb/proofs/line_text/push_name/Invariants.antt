use Rattle.std.proofs.Common.{◌≡◌, ◌++◌, take}
use Rattle.tsdb.specs.Exports.{stops_of, escaped}
use Rattle.tsdb.proofs.line_text.push_name.Given as goal

abbrev pub invariant-loop-byte : goal.invariant-loop-byte
invariant-loop-byte l = l.line.items ≡ l.initial.line.items ++ escaped (stops_of l.part) (take l.byte-index l.name)
