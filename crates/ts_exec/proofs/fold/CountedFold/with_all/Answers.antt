use Rattle.std.proofs.Common.{◌∙◌, ap, sym}
use Rattle.ts_core.specs.aggregates.Aggregates.{Aggregate}
use Rattle.ts_exec.specs.declared.aggregate_parts.AggregateParts.TheVariants.{CountAlone}
use Rattle.ts_exec.specs.RowParts.{part_with}
use Rattle.ts_exec.proofs.Folded.{merged-counted}
use Rattle.ts_exec.proofs.fold.CountedFold.with_all.Goals as goal

pub returns : goal.returns
returns c = sym (merged-counted c.self.inside.count c.args.points.now) ∙ ap (λ (a : Aggregate). part_with CountAlone a c.args.points.now) c.self.view_is
