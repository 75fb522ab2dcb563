use Rattle.std.proofs.Common.{rules, ◌≡◌, ℕ, ℤ, SFits, to_z, of_z, to_z-of_z, refl, w64}
use Rattle.std.specs.Int.{w128}
use Rattle.std.proofs.lemmas.Result.{err_from_is_err_and}
use Rattle.ts_image.specs.Formats.{number, signed_number, also}
use Rattle.ts_image.specs.Images.{image_cell, image_cell_key, image_extremes}
use Rattle.ts_image.specs.RuleParts.{rule_from_parts}
use Rattle.ts_image.specs.CellParts.{cell_key_of, extremes_of_parts, cell_of_parts}
use Rattle.ts_image.proofs.Stopping.{stops_of, reads_of, first_stops, then_stops, whole_stops}
use Rattle.ts_image.proofs.Together.{both, also_reads, iso_reads, also_stops, iso_stops}
use Rattle.ts_image.proofs.read.cells.read_cell.Goals as goal

abbrev as_it_is : ℤ → ℤ
as_it_is z = z

abbrev so_many : ℕ → ℕ
so_many n = n

pub returns : goal.returns
returns g c =
    let f : SFits w128 c.in_ok-sum.sum = search rules in
    let e : to_z w128 (of_z w128 c.in_ok-sum.sum) ≡ c.in_ok-sum.sum = to_z-of_z f in
    rw e
    (iso_reads _ _ _ _ cell_of_parts c.args.reader.now c.read_extremes.new.reader c.args.source.now c.read_extremes.new.source _ _ refl
    (also_reads (image_cell_key (rule_from_parts c.args.rule.now)) (also (number w64) (also (signed_number w128) image_extremes)) cell_key_of _ _ _ _ _ _ _ c.in_ok-key.key _ c.in_ok-key.ensures
    (also_reads (number w64) (also (signed_number w128) image_extremes) so_many _ _ _ _ _ _ _ c.in_ok-count.count _ c.in_ok-count.ensures
    (also_reads (signed_number w128) image_extremes as_it_is extremes_of_parts _ _ _ _ _ _ c.in_ok-sum.sum c.in_ok-extremes.extremes c.in_ok-sum.ensures c.in_ok-extremes.ensures))))

pub returns-in_err-extremes : goal.returns-in_err-extremes
returns-in_err-extremes g c =
    let p = err_from_is_err_and c.from_residual-in_err-extremes.result c.from_residual-in_err-extremes.ensures.1 in
    let f : SFits w128 c.in_ok-sum.sum = search rules in
    let e = c.in_err-extremes.field-0.0 in
    rw (p.1, p.2)
    (iso_stops _ _ _ (both (image_cell_key (rule_from_parts c.args.rule.now)) (also (number w64) (also (signed_number w128) image_extremes)) (cell_key_of {A = g.row.A.Denot}) (both (number w64) (also (signed_number w128) image_extremes) so_many (both (signed_number w128) image_extremes as_it_is extremes_of_parts))) cell_of_parts c.args.reader.now c.read_extremes.new.reader c.args.source.now c.read_extremes.new.source e
    (also_stops (image_cell_key (rule_from_parts c.args.rule.now)) (also (number w64) (also (signed_number w128) image_extremes)) (cell_key_of {A = g.row.A.Denot}) (both (number w64) (also (signed_number w128) image_extremes) so_many (both (signed_number w128) image_extremes as_it_is extremes_of_parts)) _ _ _ _ _ _ _ c.in_ok-key.key e c.in_ok-key.ensures
    (also_stops (number w64) (also (signed_number w128) image_extremes) so_many (both (signed_number w128) image_extremes as_it_is extremes_of_parts) _ _ _ _ _ _ _ c.in_ok-count.count e c.in_ok-count.ensures
    (also_stops (signed_number w128) image_extremes as_it_is extremes_of_parts _ _ _ _ _ _ _ c.in_ok-sum.sum e c.in_ok-sum.ensures c.in_err-extremes.ensures))))

pub returns-in_err-sum : goal.returns-in_err-sum
returns-in_err-sum g c =
    let p = err_from_is_err_and c.from_residual-in_err-sum.result c.from_residual-in_err-sum.ensures.1 in
    let e = c.in_err-sum.field-0.0 in
    let key = image_cell_key (rule_from_parts c.args.rule.now) in
    let rest = also (signed_number w128) image_extremes in
    rw (p.1, p.2)
    (reads_of (image_cell (rule_from_parts c.args.rule.now)) cell_of_parts _ _ _ _ e
    (whole_stops (also key (also (number w64) rest)) _ _ _ _ _ _ e
    (then_stops key (λ k. also (number w64) rest) _ _ cell_key_of _ _ _ _ c.in_ok-key.key e c.in_ok-key.ensures
    (then_stops (number w64) (λ n. rest) _ _ so_many _ _ _ _ c.in_ok-count.count e c.in_ok-count.ensures
    (first_stops (signed_number w128) (λ z. image_extremes) _ _ _ _ e (stops_of (signed_number w128) as_it_is _ _ _ _ e c.in_err-sum.ensures))))))
