use Rattle.std.proofs.Common.{◌≡◌, ◌+◌, false, Ok, bytes_eq, codes, sym, ap, ◌∙◌, slice_index, slice_range}
use Rattle.ts_core.specs.facts.Facts.{Text}
use Rattle.ts_line.specs.declared.scan.Stops.TheVariants.{Equals}
use Rattle.ts_line.specs.PartTexts.{unescaped, piece_at}
use Rattle.ts_line.specs.Values.{value_begun_at}
use Rattle.ts_line.proofs.EndLemmas.{field_kept}
use Rattle.ts_line.proofs.ends.field_end.Goals as goal

pub returns-clause-value : goal.returns-clause-value
returns-clause-value c =
    let line = c.args.line.now in
    let start = c.args.start in
    let name_end = c.end_at-name_end.result.at in
    let equals : slice_index line name_end ≡ 61 = sym c.byte_at.ensures ∙ c.if-byte_at-ne61.false in
    let other : bytes_eq (unescaped Equals (slice_range line start name_end)) (codes "time") ≡ false = ap (λ (t : Text). bytes_eq (unescaped Equals t) (codes "time")) (sym c.range.ensures.value) ∙ sym c.have_same_text.ensures ∙ c.if-have_same_text.false in
    let read : value_begun_at start line (name_end + 1) ≡ Ok (c.in_ok-end.field-0-0, c.in_ok-end.end) = rw (← c.after.ensures.value) (sym c.in_ok-end.ensures.value) in
    ((piece_at Equals line start name_end, c.in_ok-end.field-0-0), field_kept line start name_end c.in_ok-end.end c.in_ok-end.field-0-0 c.end_at-name_end.ensures.value c.if-name_end-start.false equals other read)
