use Rattle.std.proofs.Common.{map, take}
use Rattle.ts_core.specs.store.StoreData.{OfEachHistory}
use Rattle.ts_reply.specs.Answering.{AreOutcomes}
use Rattle.ts_reply.specs.Explaining.{IsExplained}
use Rattle.ts_reply.specs.OutcomeViews.{outcome_view}
use Rattle.ts_reply.proofs.explaining.each_explained.Given as goal

abbrev pub invariant-loop-query : goal.invariant-loop-query
invariant-loop-query g l = OfEachHistory l.store (λ opening h. AreOutcomes (IsExplained opening h) (take l.query-index l.queries) (map outcome_view l.outcomes.items))
