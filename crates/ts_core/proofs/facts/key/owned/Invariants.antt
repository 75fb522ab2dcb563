use Rattle.std.proofs.Common.{◌≡◌, take}
use Rattle.ts_core.specs.text.Texts.{owned_pairs, borrowed_pairs}
use Rattle.ts_core.proofs.facts.key.owned.Given as goal

abbrev pub invariant-loop-key : goal.invariant-loop-key
invariant-loop-key g l = owned_pairs l.all.items ≡ borrowed_pairs (take l.key-index l.pairs)
