use Rattle.std.proofs.Common.{◌≡◌, drop}
use Rattle.ts_line.specs.Fields.{offset_from}
use Rattle.ts_line.proofs.field.index_of.Given as goal

abbrev pub invariant-loop-at : goal.invariant-loop-at
invariant-loop-at g l = offset_from l.at l.name (drop l.at l.fields) ≡ offset_from 0 l.name l.fields
