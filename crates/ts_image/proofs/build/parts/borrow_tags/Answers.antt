use Rattle.std.proofs.Common.{◌≡◌, ◌<◌, ◌∷◌, ◌++◌, [], List, length, string_bytes, sym, ap, ap₂, ◌∙◌, arith}
use Rattle.ts_core.specs.facts.Facts.{Text}
use Rattle.ts_core.specs.text.Texts.{borrowed_pairs}
use Rattle.ts_core.proofs.text.PairTexts.{borrowed_push}
use Rattle.ts_image.specs.SeriesParts.{tag_of}
use Rattle.ts_image.proofs.Lending.{borrowed_length, map_step, map_length}
use Rattle.ts_image.proofs.build.parts.borrow_tags.Goals as goal

pub push-requires : goal.push-requires
push-requires g c =
    let n = borrowed_length c.loop-tag.borrowed.items in
    let e = ap length c.loop-tag.invariant in
    let lt : c.loop-tag.tag-index < length c.args.tags.now = c.loop-tag-test.true in
    let m = map_length tag_of c.args.tags.now c.loop-tag.tag-index (omega arith) in
    (omega arith, omega (arith, n, e, m, lt, c.requires.few))

pub loop-tag-preserved : goal.loop-tag-preserved
loop-tag-preserved g c =
    let t = c.tag-item.result in
    let k : c.as_str.result.now ≡ string_bytes t.0 = c.as_str.ensures.value in
    let v : c.as_str-in-loop-tag.result.now ≡ string_bytes t.1 = c.as_str-in-loop-tag.ensures.value in
    let p : List (Text × Text) = borrowed_pairs c.loop-tag.borrowed.items in
    ap borrowed_pairs c.push.ensures.items ∙ borrowed_push c.loop-tag.borrowed.items _ ∙ ap₂ (λ (a b : Text). p ++ (a, b) ∷ []) k v ∙ ap (λ (xs : List (Text × Text)). xs ++ tag_of t ∷ []) c.loop-tag.invariant
    ∙ sym (map_step tag_of c.args.tags.now c.loop-tag.tag-index t c.loop-tag-test.true c.tag-item.is)
