use Rattle.std.proofs.Common.{rules, ◌≡◌, true}
use Rattle.ts_exec.specs.Borrowed.{borrowed}
use Rattle.ts_exec.specs.SeriesTests.{holds_empty}
use Rattle.ts_exec.proofs.Tested.{refused_more}
use Rattle.ts_exec.proofs.tag_conditions.add.Goals as goal

pub returns : goal.returns
returns g c s set =
    let holds : holds_empty c.args.condition.now ≡ true = search rules in
    rw c.in_ok-push-2.ensures.items
    (refused_more (borrowed c.args.needed.now.items) c.args.refused.now.items (c.tag.result, c.value.result) c.args.condition.now (λ i. (c.tag.ensures i, c.value.ensures i)) holds s set)
