use Rattle.std.proofs.Common.{ℤ, get_or, subst}
use Rattle.std.specs.Prelude.{pos, FitsSigned}
use Rattle.std.specs.Int.{w64}
use Rattle.std.proofs.lemmas.Result.{err_from_is_err_and}
use Rattle.ts_image.specs.Formats.{signed_number}
use Rattle.ts_image.specs.FieldWriting.{PutsAll}
use Rattle.ts_image.proofs.Putting.{loop_more, loop_stops, loop_ends}
use Rattle.ts_core.proofs.io.OutputBufferLemmas.{done, refused}
use Rattle.ts_image.proofs.Saved.{all_at, as_it_is, mapped}
use Rattle.ts_image.proofs.Testing.{there}
use Rattle.ts_image.proofs.write.settings.put_lows.Goals as goal

pub put_index-requires : goal.put_index-requires
put_index-requires g c = all_at (FitsSigned w64) c.args.lows.now c.loop-low.low-index (get_or c.args.lows.now c.loop-low.low-index (pos 0)) c.loop-low-test.true (there c.args.lows.now c.loop-low.low-index (pos 0) c.loop-low-test.true) c.requires

pub returns-in_err-put_index : goal.returns-in_err-put_index
returns-in_err-put_index g c =
    let low : ℤ = get_or c.args.lows.now c.loop-low.low-index (pos 0) in
    let at = there c.args.lows.now c.loop-low.low-index (pos 0) c.loop-low-test.true in
    let p = err_from_is_err_and c.from_residual.result c.from_residual.ensures.1 in
    rw p.1 (subst (λ xs. PutsAll (signed_number w64) xs c.args.sink.now c.args.out.now (refused p.0) c.put_index.new.sink c.put_index.new.out) (mapped c.args.lows.now) (loop_stops (signed_number w64) as_it_is c.args.sink.now c.args.out.now c.args.lows.now c.loop-low.low-index low c.loop-low.sink c.put_index.new.sink c.loop-low.out c.put_index.new.out _ _ c.loop-low-test.true at c.loop-low.invariant c.in_err-put_index.ensures))

pub loop-low-preserved : goal.loop-low-preserved
loop-low-preserved g c =
    let low : ℤ = get_or c.args.lows.now c.loop-low.low-index (pos 0) in
    let at = there c.args.lows.now c.loop-low.low-index (pos 0) c.loop-low-test.true in
    loop_more (signed_number w64) as_it_is c.args.sink.now c.args.out.now c.args.lows.now c.loop-low.low-index low c.loop-low.sink c.put_index.new.sink c.loop-low.out c.put_index.new.out c.loop-low-test.true at c.loop-low.invariant c.in_ok-put_index.ensures

pub returns : goal.returns
returns g c =
    subst (λ xs. PutsAll (signed_number w64) xs c.args.sink.now c.args.out.now done c.loop-low.sink c.loop-low.out) (mapped c.args.lows.now)
    (loop_ends (signed_number w64) as_it_is c.args.sink.now c.args.out.now c.args.lows.now c.loop-low.low-index c.loop-low.sink c.loop-low.out c.loop-low-test.false c.loop-low.invariant)
