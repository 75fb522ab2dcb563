use Rattle.std.proofs.Common.{◌++◌, ◌∷◌, [], List, Option, map, take, refl, sym, ap, subst, ◌∙◌}
use Rattle.ts_core.specs.settings.Settings.{Rule}
use Rattle.ts_image.specs.ImageTests.{IsImageRule, rule_in}
use Rattle.ts_image.specs.RuleParts.{rule_from_parts}
use Rattle.ts_image.specs.SettingsMade.{IsMadeIf}
use Rattle.ts_image.proofs.Testing.{all_next, all_not, all_done, map_next, map_done}
use Rattle.ts_image.proofs.build.settings.make_rules.Goals as goal

pub returns-in-None : goal.returns-in-None
returns-in-None g c =
    let r = rule_from_parts c.parts-item.result in
    let made = subst (λ (o : Option Rule). IsMadeIf (IsImageRule r) (rule_in r) o) c.in-None.is c.in_ok-rule.ensures in
    record {
      some = (λ e. absurd cc, λ h. absurd (all_not IsImageRule rule_from_parts c.args.rules.now c.loop-parts.parts-index c.parts-item.result c.loop-parts-test.true c.parts-item.is (λ q. let e = made.some.1 q in absurd cc) h));
      are = tt;
    }

pub loop-parts-preserved : goal.loop-parts-preserved
loop-parts-preserved g c =
    let r = rule_from_parts c.parts-item.result in
    let made = subst (λ (o : Option Rule). IsMadeIf (IsImageRule r) (rule_in r) o) c.in-Some.is c.in_ok-rule.ensures in (
      c.in_ok-push-in-Some.ensures.items ∙ ap (λ (l : List Rule). l ++ c.in-Some.rule ∷ []) c.loop-parts.invariant.0 ∙ ap (λ (x : Rule). map rule_in (map rule_from_parts (take c.loop-parts.parts-index c.args.rules.now)) ++ x ∷ []) made.is ∙ sym (map_next rule_in rule_from_parts c.args.rules.now c.loop-parts.parts-index c.parts-item.result c.loop-parts-test.true c.parts-item.is),
      all_next IsImageRule rule_from_parts c.args.rules.now c.loop-parts.parts-index c.parts-item.result c.loop-parts-test.true c.parts-item.is c.loop-parts.invariant.1 (made.some.0 refl),
    )

pub returns : goal.returns
returns g c = record {
  some = (λ e. all_done IsImageRule rule_from_parts c.args.rules.now c.loop-parts.parts-index c.loop-parts-test.false c.loop-parts.invariant.1, λ h. refl);
  are = c.loop-parts.invariant.0 ∙ map_done rule_in rule_from_parts c.args.rules.now c.loop-parts.parts-index c.loop-parts-test.false;
}
