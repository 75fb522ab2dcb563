use Rattle.ts_store.specs.rules.RuleRollups.{HasFirstRollupSeries}
use Rattle.ts_store.proofs.rules.rule_rollups.rollup_over.Given as goal

abbrev pub invariant-loop-number : goal.invariant-loop-number
invariant-loop-number g l = HasFirstRollupSeries l.rule l.index.columns l.number l.rollup
