use Rattle.std.proofs.Common.{◌≡◌, ◌+◌, false, Ok, bytes_eq, codes, sym, ap, ◌∙◌, slice_index, slice_range}
use Rattle.std.specs.List.{list_any}
use Rattle.ts_core.specs.facts.Facts.{Text}
use Rattle.ts_line.specs.declared.scan.Stops.TheVariants.{Equals}
use Rattle.ts_line.specs.Parts.{LinePart}
use Rattle.ts_line.specs.Scan.{is_stop}
use Rattle.ts_line.specs.PartTexts.{unescaped, piece_at, plain_piece}
use Rattle.ts_line.specs.Values.{value_begun_at}
use Rattle.ts_line.proofs.EndLemmas.{field_kept}
use Rattle.ts_line.proofs.PieceLemmas.{plain_text, plain_is}
use Rattle.ts_line.proofs.field.plain_field.Goals as goal

pub returns-clause-value : goal.returns-clause-value
returns-clause-value c =
    let line = c.args.line.now in
    let start = c.args.start in
    let end = c.end_at-name_end.result.at in
    let raw : Text = slice_range line start end in
    let bare : list_any (is_stop Equals) raw ≡ false = cc (c.end_at-name_end.ensures.escape) in
    let equals : slice_index line end ≡ 61 = sym c.byte_at.ensures ∙ c.if-byte_at-ne61.false in
    let text : unescaped Equals raw ≡ c.range.result.now = plain_text Equals raw bare ∙ sym c.range.ensures.value in
    let other : bytes_eq (unescaped Equals raw) (codes "time") ≡ false = ap (λ (t : Text). bytes_eq t (codes "time")) text ∙ sym c.eq.ensures ∙ c.if-eq.false in
    let read : value_begun_at start line (end + 1) ≡ Ok c.in_ok-read.read = rw (← c.after.ensures.value) (c.in_ok-read.ensures.value start) in
    field_kept line start end c.in_ok-read.read.1 c.in_ok-read.read.0 c.end_at-name_end.ensures.value c.if-name_end-start.false equals other read
    ∙ ap (λ (p : LinePart). Ok ((p, c.in_ok-read.read.0), c.in_ok-read.read.1)) (plain_is Equals line start end bare)
