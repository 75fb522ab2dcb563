use Rattle.ts_cells.proofs.RollupSeriesLemmas.{texts_more}
use Rattle.ts_cells.proofs.rollup_series.owned.Goals as goal

pub loop-text-preserved : goal.loop-text-preserved
loop-text-preserved g c = rw c.in_ok-push.ensures.items (texts_more c.loop-text.all.items c.in_ok-from_str.field-0 c.args.texts.now c.loop-text.text-index _ c.loop-text-test.true c.in_ok-from_str.ensures.ok c.loop-text.invariant)
