use Rattle.ts_image.specs.SeriesParts.{tag_of}
use Rattle.ts_image.specs.Formats.{text, also}
use Rattle.std.proofs.lemmas.Result.{err_from_is_err_and}
use Rattle.ts_image.proofs.Putting.{loop_more, loop_stops}
use Rattle.ts_image.proofs.write.series.put_tags.Goals as goal

pub returns-in_err-put_tag : goal.returns-in_err-put_tag
returns-in_err-put_tag g c =
    let p = err_from_is_err_and c.from_residual.result c.from_residual.ensures.1 in
    rw p.1 (loop_stops (also text text) tag_of c.args.sink.now c.args.out.now c.args.tags.now c.loop-tag.tag-index c.tag-item.result c.loop-tag.sink c.put_tag.new.sink c.loop-tag.out c.put_tag.new.out _ _ c.loop-tag-test.true c.tag-item.is c.loop-tag.invariant c.in_err-put_tag.ensures)

pub loop-tag-preserved : goal.loop-tag-preserved
loop-tag-preserved g c =
    loop_more (also text text) tag_of c.args.sink.now c.args.out.now c.args.tags.now c.loop-tag.tag-index c.tag-item.result c.loop-tag.sink c.put_tag.new.sink c.loop-tag.out c.put_tag.new.out c.loop-tag-test.true c.tag-item.is c.loop-tag.invariant c.in_ok-put_tag.ensures
