use Rattle.std.proofs.Common.{◌≡◌, sym, ap, ◌∙◌, get_or, subst, arith}
use Rattle.ts_core.specs.text.Texts.{borrowed_pairs}
use Rattle.ts_line.specs.Parts.{LinePart}
use Rattle.ts_line.proofs.SortingLemmas.{pushed_pairs}
use Rattle.ts_line.proofs.line.push_all.Goals as goal

pub loop-tag-preserved : goal.loop-tag-preserved
loop-tag-preserved g c =
    let tag : LinePart × LinePart = (c.tag.inside.key, c.tag.inside.value) in
    let is : tag ≡ get_or c.args.tags.now c.loop-tag.tag-index tag = subst (λ (t : LinePart × LinePart). t ≡ get_or c.args.tags.now c.loop-tag.tag-index t) (sym c.tag.view_is) c.tag-item.is in
    record {
      pairs = ap borrowed_pairs c.push.ensures.items ∙ pushed_pairs c.args.tags.now tag c.loop-tag.pairs.items c.loop-tag.tag-index c.text.result c.text-in-loop-tag.result c.loop-tag-test.true is c.text.ensures c.text-in-loop-tag.ensures c.loop-tag.invariant.pairs;
      count = omega (arith, c.push.ensures.len, c.loop-tag.invariant.count);
    }
