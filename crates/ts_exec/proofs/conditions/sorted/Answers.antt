use Rattle.std.proofs.Common.{◌∙◌, ap}
use Rattle.ts_exec.specs.ReducedConditions.{meets_all}
use Rattle.ts_exec.proofs.Reduced.{met-permuted}
use Rattle.ts_exec.proofs.conditions.sorted.Goals as goal

pub returns : goal.returns
returns g c s =
    met-permuted c.in_ok-all.all.items c.sort_unstable_by.new.self.items c.sort_unstable_by.ensures.permutation s
    ∙ ap (λ cs. meets_all cs s) c.in_ok-all.ensures
