use Rattle.std.proofs.Common.{rules, ◌∙◌}
use Rattle.std.specs.Ordering.{int_cmp}
use Rattle.std.proofs.lemmas.Fn.{always_returns_same}
use Rattle.ts_plan.specs.declared.steps.Step.{Step}
use Rattle.ts_plan.proofs.Searches.{search_is}
use Rattle.ts_plan.proofs.prune.is_found.Goals as goal

pub returns : goal.returns
returns c =
    c.is_ok.ensures.value
    ∙ search_is c.args.instant.now c.args.steps.now c.binary_search_by.result c.requires c.binary_search_by.ensures.bound
    (c.binary_search_by.ensures.position (λ (s : Step). int_cmp s.from c.args.instant.now) (always_returns_same _ _ _ (λ a r q called. search rules)))
