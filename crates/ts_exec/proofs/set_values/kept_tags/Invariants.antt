use Rattle.std.proofs.Common.{◌≡◌, ◌++◌, drop}
use Rattle.ts_ql.specs.Selects.{texts}
use Rattle.ts_exec.specs.GroupValues.{kept_indices}
use Rattle.ts_exec.proofs.set_values.kept_tags.Given as goal

abbrev pub invariant-loop-index : goal.invariant-loop-index
invariant-loop-index g l =
    l.found.items ++ kept_indices l.index (texts (drop l.index l.tags)) (texts l.kept) ≡ kept_indices 0 (texts l.tags) (texts l.kept)
