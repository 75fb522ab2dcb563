use Rattle.std.proofs.Common.{map, ◌∙◌}
use Rattle.std.specs.Prelude.{string_bytes}
use Rattle.std.proofs.lemmas.List.{length-map}
use Rattle.std.proofs.lemmas.Result.{err_from_is_err_and}
use Rattle.ts_core.specs.facts.Facts.{Text}
use Rattle.ts_core.specs.store.Cells.{Cell}
use Rattle.ts_image.specs.Formats.{text, also, along}
use Rattle.ts_image.proofs.Putting.{also_puts, also_stops, iso_puts, along_puts}
use Rattle.ts_image.proofs.write.cells.put_cell_key.Goals as goal

pub returns-in_err-put_index : goal.returns-in_err-put_index
returns-in_err-put_index g c = λ r same.
    let k : Cell = record { index = c.args.index.now; field = c.args.field.now; group = map string_bytes c.args.group.now } in
    let p = err_from_is_err_and c.from_residual.result c.from_residual.ensures.1 in
    rw p.1 (iso_puts _ _ k (also_stops (also text (along (λ (tag : Text). text) r.kept_tags)) _ _ c.in_err-put_index.ensures))

pub returns-in_err-put_text : goal.returns-in_err-put_text
returns-in_err-put_text g c = λ r same.
    let k : Cell = record { index = c.args.index.now; field = c.args.field.now; group = map string_bytes c.args.group.now } in
    let p = err_from_is_err_and c.from_residual-in_err-put_text.result c.from_residual-in_err-put_text.ensures.1 in
    rw p.1 (iso_puts _ _ k (also_puts c.in_ok-put_index.ensures (also_stops (along (λ (tag : Text). text) r.kept_tags) _ _ c.in_err-put_text.ensures)))

pub returns : goal.returns
returns g c = λ r same.
    let k : Cell = record { index = c.args.index.now; field = c.args.field.now; group = map string_bytes c.args.group.now } in
    iso_puts _ _ k (also_puts c.in_ok-put_index.ensures (also_puts c.in_ok-put_text.ensures (along_puts text r.kept_tags (map string_bytes c.args.group.now) _ _ _ _ _ (length-map c.args.group.now string_bytes ∙ same) c.put_strings.ensures)))
