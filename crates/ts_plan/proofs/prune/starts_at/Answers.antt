use Rattle.std.proofs.Common.{rules, ◌≡◌, true, sym}
use Rattle.ts_plan.specs.Steps.{starts_first}
use Rattle.ts_plan.proofs.Pruning.{first_starts}
use Rattle.ts_plan.proofs.prune.starts_at.Goals as goal

pub returns-then-starts_first : goal.returns-then-starts_first
returns-then-starts_first c =
    let yes : starts_first c.args.instant c.args.steps.now ≡ true = search rules in
    sym (first_starts c.args.instant c.args.steps.now yes)
