use Rattle.std.proofs.Common.{rules, ◌∙◌, Bor}
use Rattle.std.proofs.lemmas.Fn.{always_returns_same}
use Rattle.ts_core.specs.facts.Facts.{Text, tag_cmp}
use Rattle.ts_exec.proofs.Tested.{search_is}
use Rattle.ts_exec.proofs.tag_conditions.has_pair.Goals as goal

pub returns : goal.returns
returns c =
    c.is_ok.ensures.value
    ∙ search_is (c.args.tag.now, c.args.value.now) c.args.pairs.now c.binary_search_by.result c.requires c.binary_search_by.ensures.bound
    (c.binary_search_by.ensures.position (λ (x : Bor Text × Bor Text). tag_cmp (x.0.now, x.1.now) (c.args.tag.now, c.args.value.now)) (always_returns_same _ _ _ (λ a r q called. search rules)))
