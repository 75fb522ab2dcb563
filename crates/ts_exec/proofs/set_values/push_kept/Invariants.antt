use Rattle.std.proofs.Common.{◌≡◌, ◌++◌, drop}
use Rattle.ts_ql.specs.Selects.{texts}
use Rattle.ts_exec.specs.GroupValues.{kept_values, seen_set}
use Rattle.ts_exec.proofs.set_values.push_kept.Given as goal

abbrev pub invariant-loop-tag : goal.invariant-loop-tag
invariant-loop-tag g l =
    seen_set l.set.items ++ kept_values (drop l.tag-index l.kept) (texts l.group) ≡ seen_set l.fn.set.items ++ kept_values l.kept (texts l.group)
