use Rattle.std.proofs.Common.{◌≡◌, ◌-◌, IsCharBoundary}
use Rattle.ts_line.specs.declared.scan.Stops.TheVariants.{Equals}
use Rattle.ts_line.specs.PartTexts.{unescaped}
use Rattle.ts_line.specs.TagParts.{has_key}
use Rattle.ts_line.specs.Ends.{pairs_at}
use Rattle.ts_line.proofs.ends.has_key.Given as goal

abbrev pub invariant-loop : goal.invariant-loop
invariant-loop l = record {
  boundary : IsCharBoundary l.line l.at;
  value : has_key (pairs_at (l.count - l.counter) l.line l.at) (unescaped Equals l.key) ≡ has_key (pairs_at l.count l.line l.first) (unescaped Equals l.key);
}
