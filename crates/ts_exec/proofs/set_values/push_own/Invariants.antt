use Rattle.std.proofs.Common.{◌≡◌, ◌++◌, drop}
use Rattle.ts_core.specs.text.Texts.{owned_pairs}
use Rattle.ts_ql.specs.Selects.{texts}
use Rattle.ts_exec.specs.GroupValues.{own_values, seen_set}
use Rattle.ts_exec.proofs.set_values.push_own.Given as goal

abbrev pub invariant-loop-tag : goal.invariant-loop-tag
invariant-loop-tag g l =
    seen_set l.set.items ++ own_values (texts l.tags) (owned_pairs (drop l.tag-index l.own)) ≡ seen_set l.fn.set.items ++ own_values (texts l.tags) (owned_pairs l.own)
