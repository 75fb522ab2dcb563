use Rattle.std.proofs.Common.{Option, refl, subst}
use Rattle.ts_core.specs.settings.Settings.{Settings}
use Rattle.ts_core.proofs.settings.SettingsLaws.{settings_wide}
use Rattle.ts_image.specs.ImageTests.{AreImageSettings, settings_of_image}
use Rattle.ts_image.specs.RuleParts.{settings_of_parts}
use Rattle.ts_image.specs.SettingsMade.{IsMadeIf}
use Rattle.ts_image.proofs.Loading.{long_from}
use Rattle.ts_image.proofs.image_loading.possible_settings.Goals as goal

pub is_rest_possible-requires-clause-settings : goal.is_rest_possible-requires-clause-settings
is_rest_possible-requires-clause-settings g c =
    let s = settings_of_parts c.args.parts.now.settings in
    (subst (λ (o : Option Settings). IsMadeIf (AreImageSettings s) (settings_of_image s) o) c.in-Some.is c.in_ok-settings.ensures).some.0 refl

pub is_rest_possible-requires-clause-long : goal.is_rest_possible-requires-clause-long
is_rest_possible-requires-clause-long g c =
    let s = settings_of_parts c.args.parts.now.settings in
    let made = subst (λ (o : Option Settings). IsMadeIf (AreImageSettings s) (settings_of_image s) o) c.in-Some.is c.in_ok-settings.ensures in
    let are = made.some.0 refl in
    long_from c.args.parts.now.settings.rules.items (settings_wide (settings_of_image s) are.faultless)

pub returns-then-is_rest_possible : goal.returns-then-is_rest_possible
returns-then-is_rest_possible g c =
    let s = settings_of_parts c.args.parts.now.settings in
    let made = subst (λ (o : Option Settings). IsMadeIf (AreImageSettings s) (settings_of_image s) o) c.in-Some.is c.in_ok-settings.ensures in
    record { some = (λ z. c.if-is_rest_possible.ensures.0 refl, λ h. refl); is = made.is }

pub returns-else-is_rest_possible : goal.returns-else-is_rest_possible
returns-else-is_rest_possible g c = record { some = (λ z. absurd cc, λ h. absurd (let e = c.if-is_rest_possible.ensures.1 h in cc)); is = tt }

pub returns-in-None : goal.returns-in-None
returns-in-None g c =
    let s = settings_of_parts c.args.parts.now.settings in
    let made = subst (λ (o : Option Settings). IsMadeIf (AreImageSettings s) (settings_of_image s) o) c.in-None.is c.in_ok-settings.ensures in
    record { some = (λ z. absurd cc, λ h. absurd (let e = made.some.1 h.settings in cc)); is = tt }
