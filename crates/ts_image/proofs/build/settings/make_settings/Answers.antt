use Rattle.std.proofs.Common.{rules, ◌≡◌, ◌≤ℤ◌, pos, ℤ, SFits, to_z-of_z, w64, List, Option, Some, Vec, map, refl, sym, ap, subst, ◌∙◌}
use Rattle.std.specs.List.{AllByRecursion}
use Rattle.ts_core.specs.settings.Settings.{Rule}
use Rattle.ts_core.specs.settings.SettingsFaults.{settings_fault}
use Rattle.ts_image.specs.declared.read.rules.RuleParts.{RuleParts}
use Rattle.ts_image.specs.ImageTests.{IsImageRule, rule_in}
use Rattle.ts_image.specs.RuleParts.{rule_from_parts}
use Rattle.ts_image.specs.SettingsMade.{AreMadeIf}
use Rattle.ts_image.proofs.MadeSettings.{same_settings}
use Rattle.ts_image.proofs.build.settings.make_settings.Goals as goal

pub returns-in-Ok : goal.returns-in-Ok
returns-in-Ok g c =
    let p = c.args.parts.now in
    let A = g.row.A.Denot in
    let made =
    subst (λ (l : List (RuleParts A)). AreMadeIf (AllByRecursion IsImageRule (map rule_from_parts l)) (map rule_in (map rule_from_parts l)) (Some c.in-Some.rules)) c.deref.ensures.value
    (subst (λ (o : Option (Vec Rule A)). AreMadeIf (AllByRecursion IsImageRule (map rule_from_parts c.deref.result.now)) (map rule_in (map rule_from_parts c.deref.result.now)) o) c.in-Some.is c.in_ok-rules.ensures) in
    let f : SFits w64 p.raw_duration = search rules in
    let e : c.in-Ok.settings ≡ _ = c.in-Ok.ensures.parts ∙ same_settings (to_z-of_z f) made.are in
    record {
      some = (
        λ z. record {
          raw = c.if-not-is_duration.ensures.0 refl;
          rules = made.some.0 refl;
          faultless = ap settings_fault (sym e) ∙ c.in-Ok.ensures.faultless;
        },
        λ h. refl,
      );
      is = e;
    }

pub new-requires : goal.new-requires
new-requires g c =
    let f : SFits w64 c.args.parts.now.raw_duration = search rules in
    subst (λ (x : ℤ). pos 0 ≤ℤ x) (sym (to_z-of_z f)) (c.if-not-is_duration.ensures.0 refl)
