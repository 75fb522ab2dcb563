use Rattle.std.proofs.Common.{◌≡◌, ◌&&◌, drop}
use Rattle.ts_core.specs.facts.Facts.{Series}
use Rattle.ts_exec.specs.Borrowed.{borrowed}
use Rattle.ts_exec.specs.ReducedConditions.{meets_all, AreMetAlike}
use Rattle.ts_exec.proofs.conditions.reduced.Given as goal

abbrev pub invariant-loop-condition : goal.invariant-loop-condition
invariant-loop-condition g l =
    AreMetAlike (borrowed l.condition-items) l.conditions
    × ((s : Series) → (meets_all (borrowed l.kept.items) s && meets_all (borrowed (drop l.condition-index l.condition-items)) s) ≡ meets_all (borrowed l.condition-items) s)
