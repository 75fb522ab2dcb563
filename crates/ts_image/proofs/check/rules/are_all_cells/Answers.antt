use Rattle.std.proofs.Common.{ℤ, refl}
use Rattle.ts_image.specs.Images.{ImageRule}
use Rattle.ts_image.specs.ImageTests.{AreImageCells}
use Rattle.ts_image.specs.RuleParts.{rule_from_parts}
use Rattle.ts_image.specs.CellParts.{cells_of_parts}
use Rattle.ts_image.proofs.Zips.{one_empty, none_of_three}
use Rattle.ts_image.proofs.check.rules.are_all_cells.Goals as goal

pub returns : goal.returns
returns g c =
    let ended = one_empty c.loop-rule.rule-iterator c.next.new.self c.next.result c.in-None.is c.next.ensures.steps in
    (λ t. c.loop-rule.invariant.left.0 (none_of_three (λ (x : ImageRule × ℤ). AreImageCells c.args.mark.now x.0 x.1) rule_from_parts cells_of_parts _ _ _ ended), λ h. refl)
