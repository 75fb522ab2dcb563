use Rattle.std.proofs.Common.{◌≡◌, false, eqb, ltb, length, slice_index, ◌∙◌}
use Rattle.std.proofs.lemmas.Bool.{ne_eqb, le-ltb}
use Rattle.std.proofs.lemmas.Str.{IsCharBoundary-start}
use Rattle.ts_core.specs.facts.Facts.{Text}
use Rattle.ts_core.specs.facts.TimeUnits.{nanoseconds_of}
use Rattle.ts_line.specs.Scan.{spaces_end}
use Rattle.ts_line.specs.Lines.{content}
use Rattle.ts_line.proofs.LineLemmas.{line_read, not_none, memory_by}
use Rattle.ts_line.proofs.read.whole_line.Goals as goal

pub after_spaces-start-requires : goal.after_spaces-start-requires
after_spaces-start-requires g c = IsCharBoundary-start c.content-line.result.now c.content-line.utf8

pub returns-clause-value : goal.returns-clause-value
returns-clause-value g c =
    let source : Text = c.args.text.now in
    let line : c.content-line.result.now ≡ content source = c.content-line.ensures in
    let start : c.after_spaces-start.result ≡ spaces_end c.content-line.result.now 0 = c.after_spaces-start.ensures.value in
    let short : ltb 65536 (length source) ≡ false = le-ltb 65536 (length source) c.if-text-gt-LINE_LIMIT.false in
    let some : eqb (spaces_end (content source) 0) (length (content source)) ≡ false = rw (← line, ← start) (ne_eqb _ _ c.if-start-line.false) in
    let told : eqb (slice_index (content source) (spaces_end (content source) 0)) 35 ≡ false = rw (← line, ← start) (ne_eqb _ _ (λ e. c.if-byte_at-eq35.false (c.byte_at.ensures ∙ e))) in
    line_read (nanoseconds_of c.args.precision) c.args.now source c.in_ok-parts.field-0 short some told (rw (← line, ← start) c.in_ok-parts.ensures)

pub returns-in_err-parts-clause-memory : goal.returns-in_err-parts-clause-memory
returns-in_err-parts-clause-memory g c =
    let source : Text = c.args.text.now in
    let line : c.content-line.result.now ≡ content source = c.content-line.ensures in
    let start : c.after_spaces-start.result ≡ spaces_end c.content-line.result.now 0 = c.after_spaces-start.ensures.value in
    let short : ltb 65536 (length source) ≡ false = le-ltb 65536 (length source) c.if-text-gt-LINE_LIMIT.false in
    let some : eqb (spaces_end (content source) 0) (length (content source)) ≡ false = rw (← line, ← start) (ne_eqb _ _ c.if-start-line.false) in
    let told : eqb (slice_index (content source) (spaces_end (content source) 0)) 35 ≡ false = rw (← line, ← start) (ne_eqb _ _ (λ e. c.if-byte_at-eq35.false (c.byte_at.ensures ∙ e))) in
    memory_by _ _ (not_none (nanoseconds_of c.args.precision) c.args.now source short some told)
