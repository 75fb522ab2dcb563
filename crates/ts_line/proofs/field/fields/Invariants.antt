use Rattle.std.proofs.Common.{◌≡◌, ◌-◌, [], IsCharBoundary}
use Rattle.ts_line.specs.NameFilters.{AreInFilter}
use Rattle.ts_line.specs.Fields.{fields_at}
use Rattle.ts_line.proofs.field.fields.Given as goal

abbrev pub invariant-loop : goal.invariant-loop
invariant-loop g l = record {
  boundary : IsCharBoundary l.line l.at;
  marked : AreInFilter l.filter l.fields.items;
  value : fields_at (256 - l.counter) l.fields.items l.line l.at ≡ fields_at 256 [] l.line l.start;
}
