use Rattle.std.proofs.Common.{◌≡◌, ◌↔◌, length}
use Rattle.std.specs.Iterator.Adapters.{zip_first, zip_second}
use Rattle.std.specs.Slice.Iter.{iter_rest}
use Rattle.ts_core.proofs.settings.same_rules.Given as goal

abbrev pub invariant-loop-rule : goal.invariant-loop-rule
invariant-loop-rule g l =
    let rules = iter_rest (zip_first l.rule-iterator) in
    let others = iter_rest (zip_second l.rule-iterator) in
    (length rules ≡ length others) × (rules ≡ others ↔ l.rules ≡ l.others)
