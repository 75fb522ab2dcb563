use Rattle.std.proofs.Common.{rules, ◌≡◌, ℤ, SFits, to_z, of_z, to_z-of_z, refl, w64}
use Rattle.std.specs.Int.{w8}
use Rattle.ts_image.specs.Formats.{signed_number, list_of}
use Rattle.ts_image.specs.Images.{image_rule}
use Rattle.ts_image.specs.RuleParts.{rules_of_parts, settings_of_parts}
use Rattle.ts_image.proofs.Together.{also_reads, iso_reads}
use Rattle.ts_image.proofs.read.rules.read_settings.Goals as goal

abbrev as_it_is : ℤ → ℤ
as_it_is z = z

pub returns : goal.returns
returns g c =
    let f : SFits w64 c.in_ok-raw_duration.raw_duration = search rules in
    let e : to_z w64 (of_z w64 c.in_ok-raw_duration.raw_duration) ≡ c.in_ok-raw_duration.raw_duration = to_z-of_z f in
    rw e
    (iso_reads _ _ _ _ settings_of_parts c.args.reader.now c.read_counted_rules.new.reader c.args.source.now c.read_counted_rules.new.source _ _ refl
    (also_reads (signed_number w64) (list_of w8 image_rule) as_it_is rules_of_parts _ _ _ _ _ _ c.in_ok-raw_duration.raw_duration c.in_ok-rules.rules c.in_ok-raw_duration.ensures c.in_ok-rules.ensures))
