use Rattle.std.proofs.Common.{◌≡◌, map, take}
use Rattle.ts_core.specs.text.Texts.{borrowed_pairs}
use Rattle.ts_image.specs.SeriesParts.{tag_of}
use Rattle.ts_image.proofs.build.parts.borrow_tags.Given as goal

abbrev pub invariant-loop-tag : goal.invariant-loop-tag
invariant-loop-tag g l = borrowed_pairs l.borrowed.items ≡ map tag_of (take l.tag-index l.tags)
