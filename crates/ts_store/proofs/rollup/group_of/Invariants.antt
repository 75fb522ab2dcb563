use Rattle.std.proofs.Common.{◌≡◌, map, take, string_bytes}
use Rattle.ts_core.specs.facts.Tags.{tag_value}
use Rattle.ts_cells.specs.Grids.{borrowed_texts}
use Rattle.ts_store.proofs.rollup.group_of.Given as goal

abbrev pub invariant-loop-tag : goal.invariant-loop-tag
invariant-loop-tag g l = borrowed_texts l.group.items ≡ map (λ t. tag_value l.key (string_bytes t)) (take l.tag-index l.tags)
