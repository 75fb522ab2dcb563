use Rattle.std.proofs.Common.{rules, ◌≡◌, ℤ, SFits, to_z, of_z, to_z-of_z, refl, w64, map}
use Rattle.std.proofs.lemmas.Result.{err_from_is_err_and}
use Rattle.ts_image.specs.Formats.{signed_number, along}
use Rattle.ts_image.specs.Images.{ImageRule}
use Rattle.ts_image.specs.RuleParts.{rule_from_parts}
use Rattle.ts_image.specs.CellParts.{lows_of, marks_of_parts}
use Rattle.ts_image.proofs.Together.{both, also_reads, iso_reads, also_stops, iso_stops}
use Rattle.ts_image.proofs.read.cells.read_marks.Goals as goal

abbrev as_it_is : ℤ → ℤ
as_it_is z = z

pub returns : goal.returns
returns g c =
    let f : SFits w64 c.in_ok-raw.raw = search rules in
    let e : to_z w64 (of_z w64 c.in_ok-raw.raw) ≡ c.in_ok-raw.raw = to_z-of_z f in
    let rs = map rule_from_parts c.args.rules.now in
    rw e
    (iso_reads _ _ _ _ marks_of_parts c.args.reader.now c.read_lows_of.new.reader c.args.source.now c.read_lows_of.new.source _ _ refl
    (also_reads (signed_number w64) (along (λ (r : ImageRule). signed_number w64) rs) as_it_is lows_of _ _ _ _ _ _ c.in_ok-raw.raw c.in_ok-lows.lows c.in_ok-raw.ensures c.in_ok-lows.ensures))

pub returns-in_err-lows : goal.returns-in_err-lows
returns-in_err-lows g c =
    let p = err_from_is_err_and c.from_residual-in_err-lows.result c.from_residual-in_err-lows.ensures.1 in
    let f : SFits w64 c.in_ok-raw.raw = search rules in
    let e = c.in_err-lows.field-0.0 in
    let rs = map rule_from_parts c.args.rules.now in
    let lows = along (λ (r : ImageRule). signed_number w64) rs in
    rw (p.1, p.2)
    (iso_stops _ _ _ (both (signed_number w64) lows as_it_is (lows_of {A = g.row.A.Denot})) marks_of_parts c.args.reader.now c.read_lows_of.new.reader c.args.source.now c.read_lows_of.new.source e
    (also_stops (signed_number w64) lows as_it_is lows_of _ _ _ _ _ _ _ c.in_ok-raw.raw e c.in_ok-raw.ensures c.in_err-lows.ensures))
