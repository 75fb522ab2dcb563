use Rattle.std.proofs.Common.{rules, ◌≡◌, SFits, to_z-of_z, w64, map, subst}
use Rattle.std.specs.Prelude.{string_bytes}
use Rattle.ts_image.specs.Images.{ImageRule}
use Rattle.ts_image.specs.ImageTests.{IsImageRule, rule_in}
use Rattle.ts_image.specs.SettingsMade.{IsMadeIf}
use Rattle.ts_image.proofs.MadeSettings.{same_rule}
use Rattle.ts_image.proofs.build.settings.make_rule.Goals as goal

pub returns : goal.returns
returns g c =
    let p = c.args.parts.now in
    let e1 : string_bytes c.in_ok-name.name ≡ string_bytes p.name = search rules in
    let e2 : string_bytes c.in_ok-measurement.measurement ≡ string_bytes p.measurement = search rules in
    let e3 : map string_bytes c.in_ok-kept_tags.kept_tags.items ≡ map string_bytes p.kept_tags.items = search rules in
    let f1 : SFits w64 p.interval = search rules in
    let f2 : SFits w64 p.offset = search rules in
    let f3 : SFits w64 p.duration = search rules in
    subst (λ (r : ImageRule). IsMadeIf (IsImageRule r) (rule_in r) c.new.result) (same_rule e1 e2 (to_z-of_z f1) (to_z-of_z f2) (to_z-of_z f3) e3) (record { some = c.new.ensures.possible; is = c.new.ensures.parts })
