-- The laws of the format of images.
use Rattle.std.proofs.Common.{List, refl}
use Rattle.std.specs.Int.{w8, w32, w64, w128}
use Rattle.ts_core.specs.facts.Facts.{Text}
use Rattle.ts_image.specs.Formats.{Format, number, signed_number, text, also, list_of}
use Rattle.ts_image.specs.FormatLaws.{IsFormat}
use Rattle.ts_image.specs.declared.version.Version.{Version}
use Rattle.ts_image.specs.declared.version.Version.TheVariants.{V1, V2}
use Rattle.ts_image.specs.Images.{ImageRule, flag, image_rule, image_settings, image_marks, image_series_key, image_point, image_column, image_series, image_cell_key, image_extremes, image_cell, image}
use Rattle.ts_image.proofs.Fields.{wide32, wide64, number_format, signed_format, text_format, nothing_format}
use Rattle.ts_image.proofs.Widths.{wide8, wide128}
use Rattle.ts_image.proofs.Parts.{and_format, iso_format, along_format, counted_format}

also_format : {A B : Type 0} (f : Format A) (g : Format B) → IsFormat f → IsFormat g → IsFormat (also f g)
also_format f g lf lg = and_format f (λ a. g) lf (λ a. lg)

n8 : IsFormat (number w8)
n8 = number_format w8 wide8

n32 : IsFormat (number w32)
n32 = number_format w32 wide32

n64 : IsFormat (number w64)
n64 = number_format w64 wide64

s64 : IsFormat (signed_number w64)
s64 = signed_format w64 wide64

s128 : IsFormat (signed_number w128)
s128 = signed_format w128 wide128

flag_format : (v : Version) → IsFormat (flag v)
flag_format V1 = nothing_format 0
flag_format V2 = n8

rule_format : IsFormat image_rule
rule_format = iso_format _ _ _ (also_format _ _ text_format (also_format _ _ text_format (also_format _ _ s64 (also_format _ _ s64 (also_format _ _ s64 (counted_format w8 text n8 text_format)))))) (λ a k. refl) (λ x. refl)

settings_format : IsFormat image_settings
settings_format = iso_format _ _ _ (also_format _ _ s64 (counted_format w8 image_rule n8 rule_format)) (λ a k. refl) (λ x. refl)

marks_format : (rules : List ImageRule) → IsFormat (image_marks rules)
marks_format rules = iso_format _ _ _ (also_format _ _ s64 (along_format (λ (r : ImageRule). signed_number w64) (λ r. s64) rules)) (λ a k. refl) (λ x. refl)

key_format : IsFormat image_series_key
key_format = iso_format _ _ _ (also_format _ _ text_format (counted_format w8 (also text text) n8 (also_format _ _ text_format text_format))) (λ a k. refl) (λ x. refl)

point_format : IsFormat image_point
point_format = also_format _ _ s64 s64

column_format : (v : Version) → IsFormat (image_column v)
column_format v = iso_format _ _ _ (also_format _ _ text_format (also_format _ _ (flag_format v) (counted_format w64 image_point n64 point_format))) (λ a k. refl) (λ x. refl)

series_format : (v : Version) → IsFormat (image_series v)
series_format v = iso_format _ _ _ (also_format _ _ key_format (counted_format w64 (image_column v) n64 (column_format v))) (λ a k. refl) (λ x. refl)

cell_key_format : (r : ImageRule) → IsFormat (image_cell_key r)
cell_key_format r = iso_format _ _ _ (also_format _ _ s64 (also_format _ _ text_format (along_format (λ (tag : Text). text) (λ t. text_format) r.kept_tags))) (λ a k. refl) (λ x. refl)

extremes_format : IsFormat image_extremes
extremes_format = iso_format _ _ _ (also_format _ _ s64 (also_format _ _ s64 (also_format _ _ point_format point_format))) (λ a k. refl) (λ x. refl)

cell_format : (r : ImageRule) → IsFormat (image_cell r)
cell_format r = iso_format _ _ _ (also_format _ _ (cell_key_format r) (also_format _ _ n64 (also_format _ _ s128 extremes_format))) (λ a k. refl) (λ x. refl)

pub image_format : (v : Version) → IsFormat (image v)
image_format v =
    iso_format _ _ _
    (and_format image_settings _ settings_format (λ s. also_format _ _ (marks_format s.rules) (also_format _ _ (flag_format v) (also_format _ _ n64 (also_format _ _ (counted_format w32 (image_series v) n32 (series_format v)) (along_format (λ (r : ImageRule). list_of w64 (image_cell r)) (λ r. counted_format w64 (image_cell r) n64 (cell_format r)) s.rules))))))
    (λ a k. refl) (λ x. refl)
