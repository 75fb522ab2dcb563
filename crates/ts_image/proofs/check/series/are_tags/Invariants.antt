use Rattle.std.proofs.Common.{map, drop}
use Rattle.std.specs.Prelude.{◌↔◌}
use Rattle.std.specs.List.{AllByRecursion}
use Rattle.ts_image.specs.TestParts.{IsTag}
use Rattle.ts_image.specs.SeriesParts.{tag_of}
use Rattle.ts_image.proofs.check.series.are_tags.Given as goal

abbrev pub invariant-loop-tag : goal.invariant-loop-tag
invariant-loop-tag g l = AllByRecursion IsTag (map tag_of (drop l.tag-index l.tags)) ↔ AllByRecursion IsTag (map tag_of l.tags)
