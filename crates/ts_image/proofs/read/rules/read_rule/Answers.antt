use Rattle.std.proofs.Common.{rules, ◌≡◌, ℤ, SFits, to_z, of_z, to_z-of_z, refl, w64}
use Rattle.std.specs.Prelude.{string_bytes}
use Rattle.std.specs.Int.{w8}
use Rattle.std.proofs.lemmas.Result.{err_from_is_err_and}
use Rattle.ts_image.specs.Formats.{signed_number, text, also, list_of}
use Rattle.ts_image.specs.Images.{image_rule}
use Rattle.ts_image.specs.RuleParts.{texts_of, rule_from_parts}
use Rattle.ts_image.proofs.Stopping.{stops_of, reads_of, first_stops, then_stops, whole_stops}
use Rattle.ts_image.proofs.Together.{also_reads, iso_reads}
use Rattle.ts_image.proofs.read.rules.read_rule.Goals as goal

abbrev as_it_is : ℤ → ℤ
as_it_is z = z

pub returns : goal.returns
returns g c =
    let f1 : SFits w64 c.in_ok-interval.interval = search rules in
    let f2 : SFits w64 c.in_ok-offset.offset = search rules in
    let f3 : SFits w64 c.in_ok-duration.duration = search rules in
    let e1 : to_z w64 (of_z w64 c.in_ok-interval.interval) ≡ c.in_ok-interval.interval = to_z-of_z f1 in
    let e2 : to_z w64 (of_z w64 c.in_ok-offset.offset) ≡ c.in_ok-offset.offset = to_z-of_z f2 in
    let e3 : to_z w64 (of_z w64 c.in_ok-duration.duration) ≡ c.in_ok-duration.duration = to_z-of_z f3 in
    rw (e1, e2, e3)
    (iso_reads _ _ _ _ rule_from_parts c.args.reader.now c.read_counted_strings.new.reader c.args.source.now c.read_counted_strings.new.source _ _ refl
    (also_reads text (also text (also (signed_number w64) (also (signed_number w64) (also (signed_number w64) (list_of w8 text))))) string_bytes _ _ _ _ _ _ _ c.in_ok-name.name _ c.in_ok-name.ensures
    (also_reads text (also (signed_number w64) (also (signed_number w64) (also (signed_number w64) (list_of w8 text)))) string_bytes _ _ _ _ _ _ _ c.in_ok-measurement.measurement _ c.in_ok-measurement.ensures
    (also_reads (signed_number w64) (also (signed_number w64) (also (signed_number w64) (list_of w8 text))) as_it_is _ _ _ _ _ _ _ c.in_ok-interval.interval _ c.in_ok-interval.ensures
    (also_reads (signed_number w64) (also (signed_number w64) (list_of w8 text)) as_it_is _ _ _ _ _ _ _ c.in_ok-offset.offset _ c.in_ok-offset.ensures
    (also_reads (signed_number w64) (list_of w8 text) as_it_is texts_of _ _ _ _ _ _ c.in_ok-duration.duration c.in_ok-kept_tags.kept_tags c.in_ok-duration.ensures c.in_ok-kept_tags.ensures))))))

pub returns-in_err-duration : goal.returns-in_err-duration
returns-in_err-duration g c =
    let p = err_from_is_err_and c.from_residual-in_err-duration.result c.from_residual-in_err-duration.ensures.1 in
    let e = c.in_err-duration.field-0.0 in
    let time = signed_number w64 in
    let two = also time (list_of w8 text) in
    let three = also time two in
    let four = also time three in
    rw (p.1, p.2)
    (reads_of image_rule rule_from_parts _ _ _ _ e
    (whole_stops (also text (also text four)) _ _ _ _ _ _ e
    (then_stops text (λ n. also text four) _ _ string_bytes _ _ _ _ c.in_ok-name.name e c.in_ok-name.ensures
    (then_stops text (λ m. four) _ _ string_bytes _ _ _ _ c.in_ok-measurement.measurement e c.in_ok-measurement.ensures
    (then_stops time (λ i. three) _ _ as_it_is _ _ _ _ c.in_ok-interval.interval e c.in_ok-interval.ensures
    (then_stops time (λ o. two) _ _ as_it_is _ _ _ _ c.in_ok-offset.offset e c.in_ok-offset.ensures
    (first_stops time (λ d. list_of w8 text) _ _ _ _ e (stops_of time as_it_is _ _ _ _ e c.in_err-duration.ensures))))))))
