use Rattle.ts_core.proofs.text.PairTexts.{owned_more}
use Rattle.ts_core.proofs.facts.key.owned.Goals as goal

pub loop-key-preserved : goal.loop-key-preserved
loop-key-preserved g c =
    rw c.in_ok-push.ensures.items
    (owned_more c.loop-key.all.items (c.in_ok-key.key, c.in_ok-value.value) c.args.pairs.now c.loop-key.key-index _ c.loop-key-test.true c.in_ok-key.ensures.ok c.in_ok-value.ensures.ok c.loop-key.invariant)
