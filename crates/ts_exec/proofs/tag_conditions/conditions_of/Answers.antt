use Rattle.std.proofs.Common.{rules, ◌∙◌, ap, List, Bor}
use Rattle.ts_core.specs.queries.Queries.{Condition}
use Rattle.ts_exec.specs.Borrowed.{borrowed}
use Rattle.ts_exec.specs.ReducedConditions.{meets_all, AreMetAlike}
use Rattle.ts_exec.proofs.tag_conditions.conditions_of.Goals as goal

pub returns : goal.returns
returns g c s once =
    let kept : AreMetAlike (borrowed c.in-Some.conditions.items) c.args.conditions.now = search rules in
    c.in_ok-divided.ensures s once ∙ ap (λ (ds : List (Bor Condition)). meets_all (borrowed ds) s) c.as_slice.ensures.value ∙ kept s
