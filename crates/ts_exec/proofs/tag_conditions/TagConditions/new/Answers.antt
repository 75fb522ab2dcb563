use Rattle.std.proofs.Common.{◌∙◌}
use Rattle.ts_core.specs.text.Texts.{borrowed_pairs}
use Rattle.ts_exec.specs.Borrowed.{borrowed}
use Rattle.ts_exec.specs.ReducedConditions.{meets_all}
use Rattle.ts_exec.specs.SeriesTests.{meets_tests}
use Rattle.ts_exec.proofs.Tested.{tests_permuted, tests-none, tests-all}
use Rattle.ts_exec.proofs.tag_conditions.TagConditions.new.Goals as goal

pub loop-condition-init : goal.loop-condition-init
loop-condition-init g c s set = rw (c.new-needed.ensures.items, c.new-refused.ensures.items) (tests-none s (meets_all (borrowed c.args.conditions.now) s))

pub returns : goal.returns
returns g c s set =
    let needed = borrowed c.loop-condition.needed.items in
    let refused = c.loop-condition.refused.items in
    tests_permuted needed refused c.sort_unstable.new.self.items c.sort_unstable.ensures.permutation s
    ∙ tests-all (meets_tests needed (borrowed_pairs refused) s) c.args.conditions.now c.loop-condition.condition-index s c.loop-condition-test.false (c.loop-condition.invariant s set)
