use Rattle.std.proofs.Common.{◌∙◌, sym, subst, drop}
use Rattle.ts_plan.specs.Steps.{Ascends}
use Rattle.ts_plan.proofs.Searches.{kept_ascends, drop_ascends}
use Rattle.ts_plan.proofs.prune.prune_steps.Goals as goal

pub reaches_end-requires : goal.reaches_end-requires
reaches_end-requires g c =
    let old = c.args.steps.now in
    subst Ascends (sym (c.steps_from.ensures ∙ c.loop-index.invariant.kept)) (kept_ascends c.args.context.now (drop c.loop-index.index old) (drop_ascends c.loop-index.index old c.requires))
