use Rattle.std.proofs.Common.{rules, ◌<◌, SFits, to_z-of_z}
use Rattle.std.specs.Int.{w128}
use Rattle.ts_core.proofs.aggregates.MeansLemmas.{mean_of-only}
use Rattle.ts_core.proofs.aggregates.means.mean.Goals as goal

pub returns-else-count-eq0-clause-ratio : goal.returns-else-count-eq0-clause-ratio
returns-else-count-eq0-clause-ratio c =
    let fits : SFits w128 c.sum.result = search rules in
    let some : 0 < c.args.a.now.count = search rules in
    mean_of-only c.args.a.now c.lowest_terms.result some (rw (to_z-of_z fits, c.sum.ensures.value, c.count-else-count-eq0.ensures) at c.lowest_terms.ensures)
