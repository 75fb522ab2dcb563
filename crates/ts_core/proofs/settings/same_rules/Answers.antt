use Rattle.std.proofs.Common.{rules, refl, ◌∙◌, sym}
use Rattle.std.proofs.lemmas.Iterator.{empty_from_Zip}
use Rattle.ts_core.proofs.settings.same_rules.Goals as goal

pub returns : goal.returns
returns g c =
    let spent = empty_from_Zip _ c.next.new.self _ c.in-None.is c.next.ensures.steps (search rules) in
    (λ t. c.loop-rule.invariant.1.0 (spent.0 ∙ sym spent.1), λ e. refl)
