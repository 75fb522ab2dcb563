use Rattle.std.proofs.Common.{◌≡◌, ◌<◌, ◌+◌, false, List, length, bytes_eq, codes, sym, ap, ◌∙◌, arith, slice_range}
use Rattle.ts_core.specs.facts.Facts.{Text}
use Rattle.ts_line.specs.declared.scan.Stops.TheVariants.{Equals}
use Rattle.ts_line.specs.Parts.{LinePart}
use Rattle.ts_line.specs.PartTexts.{unescaped, piece_at}
use Rattle.ts_line.specs.Ends.{pairs_at}
use Rattle.ts_line.specs.TagParts.{has_key}
use Rattle.ts_line.proofs.EndLemmas.{tag_kept}
use Rattle.ts_line.proofs.ends.tag_end.Goals as goal

pub returns-clause-value : goal.returns-clause-value
returns-clause-value c =
    let line = c.args.line.now in
    let key_end = c.in_ok-key_end.key_end.at in
    let end = c.in_ok-key_end.end.at in
    let before : List (LinePart × LinePart) = pairs_at c.args.count line c.args.first in
    let raw : c.range-key.result.now ≡ slice_range line c.args.start key_end = c.range-key.ensures.value in
    let few : length before < 64 = omega (arith, c.requires.count, c.if-count-ge-TAG_LIMIT.false) in
    let other : bytes_eq (unescaped Equals (slice_range line c.args.start key_end)) (codes "time") ≡ false = ap (λ (t : Text). bytes_eq (unescaped Equals t) (codes "time")) (sym raw) ∙ sym c.have_same_text.ensures ∙ c.if-have_same_text.false in
    let new : has_key before (unescaped Equals (slice_range line c.args.start key_end)) ≡ false = ap (λ (t : Text). has_key before (unescaped Equals t)) (sym raw) ∙ sym c.has_key.ensures ∙ c.if-has_key.false in
    ((piece_at Equals line c.args.start key_end, piece_at Equals line (key_end + 1) end), tag_kept before line c.args.start end (piece_at Equals line c.args.start key_end, piece_at Equals line (key_end + 1) end) c.in_ok-key_end.ensures.value few other new)
