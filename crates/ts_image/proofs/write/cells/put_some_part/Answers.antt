use Rattle.std.proofs.Common.{ap, Option}
use Rattle.ts_core.specs.declared.aggregates.aggregate.Extremes.{Extremes}
use Rattle.ts_image.specs.SavedParts.{extremes_in}
use Rattle.ts_image.proofs.Putting.{puts_at}
use Rattle.ts_image.proofs.write.cells.put_some_part.Goals as goal

pub returns : goal.returns
returns g c = puts_at (ap (λ (x : Option Extremes). (c.args.part.now.count, (c.args.part.now.sum, extremes_in x))) c.in-Some.ensures.value) c.put_part.ensures
