use Rattle.std.proofs.Common.{◌≡◌, ◌+◌, ◌-◌, false, ◌||◌, Ok, bytes_eq, sym, ap, ◌∙◌, arith, slice_index, slice_range}
use Rattle.ts_core.specs.facts.Facts.{Text}
use Rattle.ts_line.specs.declared.scan.Stops.TheVariants.{Equals}
use Rattle.ts_line.specs.Parts.{LinePart}
use Rattle.ts_line.specs.PartTexts.{unescaped, piece_at}
use Rattle.ts_line.specs.Ends.{pairs_at}
use Rattle.ts_line.specs.TagParts.{pair_at, has_key}
use Rattle.ts_line.proofs.EndLemmas.{key_step}
use Rattle.ts_line.proofs.ends.has_key.Goals as goal

pub loop-preserved : goal.loop-preserved
loop-preserved c =
    let line = c.args.line.now in
    let at = c.loop.at in
    let key_end = c.in-Ok.key_end.at in
    let end = c.in-Ok.end.at in
    let key = unescaped Equals c.args.key.now in
    let left = c.args.count - (c.loop.counter + 1) in
    let back : c.args.count - c.loop.counter ≡ left + 1 = omega (arith, c.loop-test.true) in
    let comma : slice_index line at ≡ 44 = sym c.byte_at.ensures ∙ c.if-byte_at-ne44.false in
    let t : LinePart × LinePart = (piece_at Equals line (at + 1) key_end, piece_at Equals line (key_end + 1) end) in
    let read : pair_at line (at + 1) ≡ Ok (t, end) = rw (← c.after-start.ensures.value) c.in-Ok.ensures.value in
    let raw : c.range.result.now ≡ slice_range line (at + 1) key_end = rw (← c.after-start.ensures.value) c.range.ensures.value in
    let other : bytes_eq t.0.text key ≡ false = ap (λ (x : Text). bytes_eq (unescaped Equals x) key) (sym raw) ∙ sym c.have_same_text.ensures ∙ c.if-have_same_text.false in
    record {
      boundary = c.in-Ok.ensures.rest.offset.boundary;
      value = sym (ap (λ n. has_key (pairs_at n line at) key) back ∙ key_step left line at key (t, end) comma read ∙ ap (λ b. b || has_key (pairs_at left line end) key) other) ∙ c.loop.invariant.value;
    }
