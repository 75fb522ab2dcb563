use Rattle.std.proofs.Common.{refl, map}
use Rattle.std.proofs.lemmas.Slice.Zip.{either_empty_from_Zip}
use Rattle.ts_image.specs.ImageTests.{HasCountedFacts}
use Rattle.ts_image.specs.SeriesParts.{series_of_parts}
use Rattle.ts_image.specs.RuleParts.{rule_from_parts}
use Rattle.ts_image.specs.CellParts.{cells_of_parts}
use Rattle.ts_image.proofs.Zips.{none_of_two}
use Rattle.ts_image.proofs.check.rules.are_counted.Goals as goal

pub returns : goal.returns
returns g c =
    let ended = either_empty_from_Zip c.loop-rule.rule-iterator c.next.new.self c.next.result c.in-None.is c.next.ensures.steps in
    (λ t. c.loop-rule.invariant.0 (none_of_two (HasCountedFacts c.args.accepted (map series_of_parts c.args.series.now)) rule_from_parts cells_of_parts _ _ ended), λ h. refl)
