use Rattle.std.proofs.Common.{map, take}
use Rattle.ts_core.specs.store.StoreData.{OfEachHistory}
use Rattle.ts_reply.specs.Answering.{IsOutcome, AreOutcomes}
use Rattle.ts_reply.specs.OutcomeViews.{outcome_view, given_text}
use Rattle.ts_reply.proofs.answering.outcomes_of.Given as goal

abbrev pub invariant-loop-query : goal.invariant-loop-query
invariant-loop-query g l = OfEachHistory l.store (λ opening h. AreOutcomes (IsOutcome opening h (given_text l.fn.certificate)) (take l.query-index l.queries) (map outcome_view l.outcomes.items))
