use Rattle.std.proofs.Common.{◌≡◌, ◌-◌, ◌≤◌, length, [], IsCharBoundary}
use Rattle.ts_line.specs.NameFilters.{AreKeysInFilter}
use Rattle.ts_line.specs.TagParts.{tags_at}
use Rattle.ts_line.proofs.tag.tags.Given as goal

abbrev pub invariant-loop-alloc : goal.invariant-loop-alloc
invariant-loop-alloc g l = record {
  boundary : IsCharBoundary l.line l.at;
  marked : AreKeysInFilter l.filter l.tags.items;
  few : length l.tags.items ≤ 64;
  value : tags_at (65 - length l.tags.items) l.tags.items l.line l.at ≡ tags_at 65 [] l.line l.start;
}

abbrev pub decreases-loop-alloc : goal.decreases-loop-alloc
decreases-loop-alloc g l = length l.line - l.at
