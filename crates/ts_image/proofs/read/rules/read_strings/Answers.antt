use Rattle.std.proofs.Common.{◌≡◌, ◌-◌, [], ◌∷◌, ◌++◌, map, ap, arith, refl}
use Rattle.std.specs.Prelude.{string_bytes}
use Rattle.std.proofs.lemmas.Result.{err_from_is_err_and}
use Rattle.std.proofs.lemmas.List.{map_push}
use Rattle.ts_core.proofs.lists.Remaining.{one_left}
use Rattle.ts_image.specs.Formats.{text}
use Rattle.ts_image.specs.RuleParts.{texts_of}
use Rattle.ts_image.proofs.Loops.{starts, goes_on, breaks, no_memory_left, finishes}
use Rattle.ts_image.proofs.read.rules.read_strings.Goals as goal

pub loop-init : goal.loop-init
loop-init g c = starts text c.args.count c.args.reader.now c.args.source.now (c.args.count - 0) (map string_bytes c.new-texts.result.items) (omega arith) (ap (map string_bytes) c.new-texts.ensures.items) c.requires

pub returns-in_err-text : goal.returns-in_err-text
returns-in_err-text g c =
    let p = err_from_is_err_and c.from_residual.result c.from_residual.ensures.1 in
    rw (p.1, p.2) (breaks text c.args.count c.args.reader.now c.args.source.now string_bytes _ _ (one_left c.args.count c.loop.counter c.loop-test.true) (map string_bytes c.loop.texts.items) c.loop.reader c.text.new.self c.loop.source c.text.new.source c.loop.invariant texts_of c.in_err-text.field-0.0 c.in_err-text.ensures)

pub returns-in_err-push : goal.returns-in_err-push
returns-in_err-push g c =
    let p = err_from_is_err_and c.from_residual-in_err-push.result c.from_residual-in_err-push.ensures.1 in
    rw (p.1, p.2) (no_memory_left text c.args.count c.args.reader.now c.args.source.now string_bytes _ _ (one_left c.args.count c.loop.counter c.loop-test.true) (map string_bytes c.loop.texts.items) c.loop.reader c.text.new.self c.loop.source c.text.new.source c.loop.invariant texts_of c.in_ok-text.text c.in_ok-text.ensures)

pub loop-preserved : goal.loop-preserved
loop-preserved g c =
    let pushed : map string_bytes c.push.new.self.items ≡ map string_bytes c.loop.texts.items ++ string_bytes c.in_ok-text.text ∷ [] = rw c.in_ok-push.ensures.items (map_push _ c.loop.texts.items c.in_ok-text.text) in
    goes_on text c.args.count c.args.reader.now c.args.source.now string_bytes _ _ (one_left c.args.count c.loop.counter c.loop-test.true) (map string_bytes c.loop.texts.items) c.loop.reader c.text.new.self c.loop.source c.text.new.source c.loop.invariant c.in_ok-text.text _ pushed c.in_ok-text.ensures

pub returns : goal.returns
returns g c = finishes text c.args.count c.args.reader.now c.args.source.now (c.args.count - c.loop.counter) (omega arith) (map string_bytes c.loop.texts.items) c.loop.reader c.loop.source texts_of c.loop.texts c.loop.invariant refl
