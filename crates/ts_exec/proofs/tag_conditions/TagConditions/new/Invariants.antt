use Rattle.std.proofs.Common.{◌≡◌, ◌&&◌, drop}
use Rattle.ts_core.specs.facts.Facts.{Series}
use Rattle.ts_core.specs.text.Texts.{borrowed_pairs}
use Rattle.ts_exec.specs.Borrowed.{borrowed}
use Rattle.ts_exec.specs.ReducedConditions.{meets_all}
use Rattle.ts_exec.specs.SeriesTests.{AreDistinctTags, meets_tests}
use Rattle.ts_exec.proofs.tag_conditions.TagConditions.new.Given as goal

abbrev pub invariant-loop-condition : goal.invariant-loop-condition
invariant-loop-condition g l =
    (s : Series) → AreDistinctTags s.tags → (meets_tests (borrowed l.needed.items) (borrowed_pairs l.refused.items) s && meets_all (borrowed (drop l.condition-index l.conditions)) s) ≡ meets_all (borrowed l.conditions) s
