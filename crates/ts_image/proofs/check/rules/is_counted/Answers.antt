use Rattle.std.proofs.Common.{arith, List, map, sym, ap, ◌∙◌}
use Rattle.std.specs.Prelude.{string_bytes}
use Rattle.std.specs.List.{sum_by}
use Rattle.ts_core.specs.facts.Facts.{Text}
use Rattle.ts_image.specs.declared.read.cells.CellParts.{CellParts}
use Rattle.ts_image.specs.ImageTests.{count_frozen}
use Rattle.ts_image.specs.SeriesParts.{series_of_parts}
use Rattle.ts_image.specs.CellParts.{cell_of_parts}
use Rattle.ts_image.specs.TestParts.{points_if}
use Rattle.ts_image.proofs.Testing.{counted, of_measurement}
use Rattle.ts_image.proofs.check.rules.is_counted.Goals as goal

pub returns-in-Some : goal.returns-in-Some
returns-in-Some g c =
    let ss = map series_of_parts c.args.series.now in
    let d = ap (λ (l : List (CellParts g.row.A.Denot)). count_frozen (map cell_of_parts l)) c.deref.ensures.value in
    let q = of_measurement (string_bytes c.args.rule.now.measurement) ss ∙ ap (λ (x : Text). sum_by (points_if x) ss) (sym c.as_str.ensures.value) in
    let p = counted c.args.accepted c.in-Some.left (count_frozen (map cell_of_parts c.deref.result.now)) (sum_by (points_if c.as_str.result.now) ss) c.subtract_measurement.result c.in-Some.ensures c.subtract_measurement.ensures in
    (λ h. let k = p.0 (sym c.is_some.ensures ∙ h) in record { enough = omega (arith, k, q, d) }, λ z. let le = z.enough in c.is_some.ensures ∙ p.1 (omega (arith, le, q, d)))
