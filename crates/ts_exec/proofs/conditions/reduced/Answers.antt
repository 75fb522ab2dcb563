use Rattle.std.proofs.Common.{rules, ◌≡◌, ◌∙◌, true}
use Rattle.ts_exec.proofs.Reduced.{met-next, met-all}
use Rattle.ts_exec.proofs.conditions.reduced.Goals as goal

pub loop-condition-preserved : goal.loop-condition-preserved
loop-condition-preserved g c =
    let fits : c.in_ok-keep.field-0 ≡ true = search rules in (
      c.loop-condition.invariant.0,
      λ s. met-next c.loop-condition.kept.items c.keep.new.kept.items c.deref-condition-items.result.now c.loop-condition.condition-index c.condition-item.result c.in_ok-keep.field-0 s c.loop-condition-test.true c.condition-item.is (c.in_ok-keep.ensures s) fits (c.loop-condition.invariant.1 s),
    )

pub returns : goal.returns
returns g c s =
    met-all c.loop-condition.kept.items c.deref-condition-items.result.now c.loop-condition.condition-index s c.loop-condition-test.false (c.loop-condition.invariant.1 s)
    ∙ c.loop-condition.invariant.0 s
