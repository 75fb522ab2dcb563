use Rattle.std.proofs.Common.{subst, sym}
use Rattle.ts_core.specs.aggregates.Aggregates.{IsAggregateOfPoints}
use Rattle.ts_core.proofs.aggregates.AggregatesLemmas.{aggregate_of_points-is}
use Rattle.ts_core.proofs.aggregates.fold.aggregate_points.Goals as goal

pub returns-clause-meaning : goal.returns-clause-meaning
returns-clause-meaning c = subst (IsAggregateOfPoints c.args.points.now) (sym c.fold_points.ensures) (aggregate_of_points-is c.args.points.now)
