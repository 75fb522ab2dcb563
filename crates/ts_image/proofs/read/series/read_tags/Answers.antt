use Rattle.std.proofs.Common.{◌≡◌, ◌-◌, [], ◌∷◌, ◌++◌, map, ap, arith, refl}
use Rattle.ts_image.specs.SeriesParts.{tag_of, tags_of_parts}
use Rattle.ts_image.specs.Formats.{text, also}
use Rattle.std.proofs.lemmas.Result.{err_from_is_err_and}
use Rattle.std.proofs.lemmas.List.{map_push}
use Rattle.ts_core.proofs.lists.Remaining.{one_left}
use Rattle.ts_image.proofs.Loops.{starts, goes_on, breaks, no_memory_left, finishes}
use Rattle.ts_image.proofs.read.series.read_tags.Goals as goal

pub loop-init : goal.loop-init
loop-init g c = starts (also text text) c.args.count c.args.reader.now c.args.source.now (c.args.count - 0) (map tag_of c.new-tags.result.items) (omega arith) (ap (map tag_of) c.new-tags.ensures.items) c.requires

pub returns-in_err-tag : goal.returns-in_err-tag
returns-in_err-tag g c =
    let p = err_from_is_err_and c.from_residual.result c.from_residual.ensures.1 in
    rw (p.1, p.2) (breaks (also text text) c.args.count c.args.reader.now c.args.source.now tag_of _ _ (one_left c.args.count c.loop.counter c.loop-test.true) (map tag_of c.loop.tags.items) c.loop.reader c.read_tag.new.reader c.loop.source c.read_tag.new.source c.loop.invariant tags_of_parts c.in_err-tag.field-0.0 c.in_err-tag.ensures)

pub returns-in_err-push : goal.returns-in_err-push
returns-in_err-push g c =
    let p = err_from_is_err_and c.from_residual-in_err-push.result c.from_residual-in_err-push.ensures.1 in
    rw (p.1, p.2) (no_memory_left (also text text) c.args.count c.args.reader.now c.args.source.now tag_of _ _ (one_left c.args.count c.loop.counter c.loop-test.true) (map tag_of c.loop.tags.items) c.loop.reader c.read_tag.new.reader c.loop.source c.read_tag.new.source c.loop.invariant tags_of_parts c.in_ok-tag.tag c.in_ok-tag.ensures)

pub loop-preserved : goal.loop-preserved
loop-preserved g c =
    let pushed : map tag_of c.push.new.self.items ≡ map tag_of c.loop.tags.items ++ tag_of c.in_ok-tag.tag ∷ [] = rw c.in_ok-push.ensures.items (map_push _ c.loop.tags.items c.in_ok-tag.tag) in
    goes_on (also text text) c.args.count c.args.reader.now c.args.source.now tag_of _ _ (one_left c.args.count c.loop.counter c.loop-test.true) (map tag_of c.loop.tags.items) c.loop.reader c.read_tag.new.reader c.loop.source c.read_tag.new.source c.loop.invariant c.in_ok-tag.tag _ pushed c.in_ok-tag.ensures

pub returns : goal.returns
returns g c = finishes (also text text) c.args.count c.args.reader.now c.args.source.now (c.args.count - c.loop.counter) (omega arith) (map tag_of c.loop.tags.items) c.loop.reader c.loop.source tags_of_parts c.loop.tags c.loop.invariant refl
