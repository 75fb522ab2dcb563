use Rattle.std.proofs.Common.{rules, tests, ◌∙◌, string_bytes}
use Rattle.std.proofs.lemmas.Iterator.{YieldsList-from_slice}
use Rattle.std.proofs.lemmas.Iterator.Search.{position_from_yields_List}
use Rattle.std.proofs.lemmas.Iterator.Adapters.{position_from-zero}
use Rattle.ts_core.specs.facts.Facts.{same_text}
use Rattle.ts_exec.proofs.SetSteps.{position-index}
use Rattle.ts_exec.proofs.set_values.kept_index.Goals as goal

pub returns : goal.returns
returns g c =
    let name = c.args.name.now in
    position_from_yields_List (λ k. same_text (string_bytes k) name) _ _ _ c.position.ensures.ran (YieldsList-from_slice c.args.kept.now cc) (λ x b q k. search (rules, tests))
    ∙ position_from-zero (λ k. same_text (string_bytes k) name) c.args.kept.now
    ∙ position-index name 0 c.args.kept.now
