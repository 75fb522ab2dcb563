use Rattle.std.proofs.Common.{◌≡◌, ◌≤◌, ◌+◌, map, length, []}
use Rattle.ts_core.specs.text.Texts.{borrowed_pairs}
use Rattle.ts_line.specs.Parts.{tag_texts}
use Rattle.ts_line.proofs.SortingLemmas.{insert_all}
use Rattle.ts_line.proofs.line.Line.insert_all.Given as goal

abbrev pub invariant-loop-left : goal.invariant-loop-left
invariant-loop-left g l = record {
  put : insert_all (map tag_texts l.left) (borrowed_pairs l.pairs.items) ≡ insert_all (map tag_texts l.self.tags) [];
  few : length l.pairs.items + length l.left ≤ g.row.N;
}

abbrev pub decreases-loop-left : goal.decreases-loop-left
decreases-loop-left g l = length l.left
