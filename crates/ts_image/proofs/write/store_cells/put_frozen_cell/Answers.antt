use Rattle.std.proofs.Common.{rules, ◌≡◌, length, map, ap, ◌∙◌, sym}
use Rattle.std.specs.Prelude.{string_bytes}
use Rattle.std.proofs.lemmas.List.{length-map}
use Rattle.ts_store.specs.image.SavedContent.{FrozenCell}
use Rattle.ts_image.specs.SavedParts.{image_rule_of}
use Rattle.ts_image.specs.Saving.{image_cell_of}
use Rattle.ts_image.proofs.Putting.{puts_at}
use Rattle.ts_image.proofs.write.store_cells.put_frozen_cell.Goals as goal

pub returns : goal.returns
returns g c =
    let x : FrozenCell = record { cell = record { index = c.cell.inside.index; field = c.cell.inside.field.now; group = map string_bytes c.cell.inside.group.now }; frozen = c.cell.inside.frozen } in
    let e : x ≡ c.args.cell.now = search rules in
    let same : length c.cell.inside.group.now ≡ length c.args.rule.now.kept_tags = sym (length-map c.cell.inside.group.now string_bytes) ∙ ap (λ (y : FrozenCell). length y.cell.group) e ∙ c.requires.fit.group in
    puts_at (ap image_cell_of e) (c.put_cell.ensures (image_rule_of c.args.rule.now) same)
