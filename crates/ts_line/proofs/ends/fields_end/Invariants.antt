use Rattle.std.proofs.Common.{◌≡◌, ◌-◌, ℤ, List, [], IsCharBoundary}
use Rattle.ts_line.specs.Parts.{LinePart}
use Rattle.ts_line.specs.Fields.{fields_at}
use Rattle.ts_line.proofs.ends.fields_end.Given as goal

abbrev pub invariant-loop : goal.invariant-loop
invariant-loop l = IsCharBoundary l.line l.at × ((before : List (LinePart × ℤ)) × (fields_at (256 - l.counter) before l.line l.at ≡ fields_at 256 [] l.line l.start))
