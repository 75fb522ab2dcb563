use Rattle.std.proofs.Common.{rules, ◌≡◌, ℤ, SFits, to_z, of_z, to_z-of_z, refl, w64}
use Rattle.std.specs.Prelude.{string_bytes}
use Rattle.ts_core.specs.facts.Facts.{Text}
use Rattle.ts_image.specs.Formats.{signed_number, text, also, along}
use Rattle.ts_image.specs.RuleParts.{texts_of}
use Rattle.ts_image.specs.CellParts.{cell_key_of}
use Rattle.ts_image.proofs.Together.{also_reads, iso_reads}
use Rattle.ts_image.proofs.read.cells.read_cell_key.Goals as goal

abbrev as_it_is : ℤ → ℤ
as_it_is z = z

pub returns : goal.returns
returns g c =
    let f : SFits w64 c.in_ok-index.index = search rules in
    let e : to_z w64 (of_z w64 c.in_ok-index.index) ≡ c.in_ok-index.index = to_z-of_z f in
    let tags = texts_of c.args.rule.now.kept_tags in
    rw e
    (iso_reads _ _ _ _ cell_key_of c.args.reader.now c.read_group.new.reader c.args.source.now c.read_group.new.source _ _ refl
    (also_reads (signed_number w64) (also text (along (λ (tag : Text). text) tags)) as_it_is _ _ _ _ _ _ _ c.in_ok-index.index _ c.in_ok-index.ensures
    (also_reads text (along (λ (tag : Text). text) tags) string_bytes texts_of _ _ _ _ _ _ c.in_ok-field.field c.in_ok-group.group c.in_ok-field.ensures c.in_ok-group.ensures)))
