use Rattle.std.proofs.Common.{◌≡◌, map, take, length}
use Rattle.ts_core.specs.text.Texts.{borrowed_pairs}
use Rattle.ts_line.specs.Parts.{tag_texts}
use Rattle.ts_line.proofs.line.push_all.Given as goal

abbrev pub invariant-loop-tag : goal.invariant-loop-tag
invariant-loop-tag g l = record {
  pairs : borrowed_pairs l.pairs.items ≡ map tag_texts (take l.tag-index l.tags);
  count : length l.pairs.items ≡ l.tag-index;
}
