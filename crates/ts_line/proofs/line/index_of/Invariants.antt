use Rattle.std.proofs.Common.{◌≡◌, drop}
use Rattle.ts_core.specs.text.Texts.{borrowed_pairs}
use Rattle.ts_line.specs.Sorting.{key_offset_from}
use Rattle.ts_line.proofs.line.index_of.Given as goal

abbrev pub invariant-loop-at : goal.invariant-loop-at
invariant-loop-at l = key_offset_from l.at l.key (borrowed_pairs (drop l.at l.pairs)) ≡ key_offset_from 0 l.key (borrowed_pairs l.pairs)
