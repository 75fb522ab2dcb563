use Rattle.std.proofs.Common.{map, arith}
use Rattle.std.proofs.lemmas.Bool.Decides.{nat_tests}
use Rattle.std.proofs.lemmas.Iterator.{empty_from_Zip}
use Rattle.std.proofs.lemmas.List.{length-map}
use Rattle.std.proofs.lemmas.Slice.Zip.{AllZip-long}
use Rattle.ts_image.specs.ImageTests.{IsLow}
use Rattle.ts_image.specs.RuleParts.{rule_from_parts}
use Rattle.ts_image.proofs.check.rules.are_lows.Goals as goal

pub returns : goal.returns
returns g c =
    let even = c.loop-rule.invariant.even in (
      λ t. c.loop-rule.invariant.left.0
          (let none = empty_from_Zip c.loop-rule.rule-iterator c.next.new.self c.next.result c.in-None.is c.next.ensures.steps (grind (arith, nat_tests)) in rw (none.0, none.1) tt),
      λ h. let same = AllZip-long (IsLow c.args.version c.args.mark.now) (map rule_from_parts c.args.rules.now) c.args.lows.now h in let rules = length-map c.args.rules.now (rule_from_parts {A = g.row.A.Denot}) in grind (arith, nat_tests),
    )
