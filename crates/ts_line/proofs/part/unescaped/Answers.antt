use Rattle.std.proofs.Common.{◌≡◌, ◌++◌, ◌+◌, ◌<◌, length, true, false, slice_range, string_bytes, refl, sym, ap, ◌∙◌, arith}
use Rattle.std.proofs.lemmas.Str.{IsCharBoundary-start}
use Rattle.ts_core.specs.facts.Facts.{Text}
use Rattle.ts_line.specs.PartTexts.{unescaped}
use Rattle.ts_line.proofs.PieceLemmas.{is_escape_at, text_kept, text_cut}
use Rattle.ts_line.proofs.part.unescaped.Goals as goal
use Rattle.ts_line.proofs.part.unescaped.Goals.{then-is_escape_at+in_ok-push_str, else-is_escape_at}

pub loop-at-init : goal.loop-at-init
loop-at-init g c = record {
  from = omega arith;
  within = omega arith;
  boundary = IsCharBoundary-start c.args.raw.now c.utf8.raw;
  text = rw c.new-text.ensures.bytes refl;
}

pub loop-at-preserved : goal.loop-at-preserved
loop-at-preserved g c =
    let inv = c.loop-at.invariant in
    let escape : c.is_escape_at.result ≡ is_escape_at c.args.stops c.args.raw.now c.loop-at.at = c.is_escape_at.ensures ∙ ap (λ (bs : Text). is_escape_at c.args.stops bs c.loop-at.at) c.as_bytes-bytes.ensures.value in
    let more : c.loop-at.at < length c.args.raw.now = rw (← c.as_bytes-bytes.ensures.value) c.loop-at-test.true in
    elim c.if-is_escape_at.branch [
      | then-is_escape_at+in_ok-push_str w ↦
          let is : is_escape_at c.args.stops c.args.raw.now c.loop-at.at ≡ true = sym escape ∙ w.if-is_escape_at.true in
          let from : c.if-is_escape_at.from ≡ c.loop-at.at + 1 = w.from-is ∙ w.after-from.ensures.value in
          let text : string_bytes c.if-is_escape_at.text ≡ string_bytes c.loop-at.text ++ slice_range c.args.raw.now c.loop-at.from c.loop-at.at = ap string_bytes w.text-is ∙ w.in_ok-push_str.ensures.bytes ∙ ap (λ (bs : Text). string_bytes c.loop-at.text ++ bs) w.range.ensures.value in
          record {
            from = omega (arith, from);
            within = omega arith;
            boundary = rw w.from-is w.after-from.ensures.boundary;
            text = rw (text, from) (text_cut c.args.stops c.args.raw.now c.loop-at.from c.loop-at.at (string_bytes c.loop-at.text) (unescaped c.args.stops c.args.raw.now) more is inv.text);
          }
      | else-is_escape_at w ↦
          let is : is_escape_at c.args.stops c.args.raw.now c.loop-at.at ≡ false = sym escape ∙ w.if-is_escape_at.false in
          record {
            from = omega (arith, w.from-is);
            within = omega arith;
            boundary = rw w.from-is inv.boundary;
            text = rw (w.text-is, w.from-is) (text_kept c.args.stops c.args.raw.now c.loop-at.from c.loop-at.at (string_bytes c.loop-at.text) (unescaped c.args.stops c.args.raw.now) inv.from more is inv.text);
          }
    ]
