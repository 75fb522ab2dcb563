use Rattle.std.proofs.Common.{rules, ◌≡◌, ℤ, ◌∷◌, subst, SFits, w64, to_z, of_z, to_z-of_z, ap}
use Rattle.std.proofs.lemmas.Result.{err_from_is_err_and}
use Rattle.ts_core.proofs.io.OutputBufferLemmas.{done, refused}
use Rattle.ts_image.specs.Images.{image_point}
use Rattle.ts_image.specs.FieldWriting.{PutsAll}
use Rattle.ts_image.proofs.Putting.{puts_at, going_starts, going_on, going_stops, going_ends}
use Rattle.ts_image.proofs.Saved.{as_it_is, mapped}
use Rattle.ts_image.proofs.write.columns.put_points.Goals as goal

pub loop-time-init : goal.loop-time-init
loop-time-init g c =
    let e : c.into_iter-time-iterator.result ≡ c.args.points = search rules in
    going_starts image_point as_it_is c.args.sink.now c.args.out.now c.args.points c.into_iter-time-iterator.result e

pub returns-in_err-put_point : goal.returns-in_err-put_point
returns-in_err-put_point g c =
    let t : ℤ = c.in-Some.time in
    let v : ℤ = c.in-Some.value in
    let left : c.loop-time.time-iterator ≡ (t, v) ∷ c.next.new.self = search rules in
    let f : SFits w64 v = search rules in
    let e : (t, to_z w64 (of_z w64 v)) ≡ (t, v) = ap (λ (z : ℤ). (t, z)) (to_z-of_z f) in
    let p = err_from_is_err_and c.from_residual.result c.from_residual.ensures.1 in
    rw p.1 (subst (λ xs. PutsAll image_point xs c.args.sink.now c.args.out.now (refused p.0) c.put_point.new.sink c.put_point.new.out) (mapped c.args.points) (going_stops image_point as_it_is c.args.sink.now c.args.out.now c.args.points c.loop-time.time-iterator c.next.new.self (t, v) c.loop-time.sink c.put_point.new.sink c.loop-time.out c.put_point.new.out _ _ left c.loop-time.invariant (puts_at e c.in_err-put_point.ensures)))

pub loop-time-preserved : goal.loop-time-preserved
loop-time-preserved g c =
    let t : ℤ = c.in-Some.time in
    let v : ℤ = c.in-Some.value in
    let left : c.loop-time.time-iterator ≡ (t, v) ∷ c.next.new.self = search rules in
    let f : SFits w64 v = search rules in
    let e : (t, to_z w64 (of_z w64 v)) ≡ (t, v) = ap (λ (z : ℤ). (t, z)) (to_z-of_z f) in
    going_on image_point as_it_is c.args.sink.now c.args.out.now c.args.points c.loop-time.time-iterator c.next.new.self (t, v) c.loop-time.sink c.put_point.new.sink c.loop-time.out c.put_point.new.out left c.loop-time.invariant (puts_at e c.in_ok-put_point.ensures)

pub returns : goal.returns
returns g c =
    subst (λ xs. PutsAll image_point xs c.args.sink.now c.args.out.now done c.loop-time.sink c.loop-time.out) (mapped c.args.points) (going_ends image_point as_it_is c.args.sink.now c.args.out.now c.args.points c.loop-time.time-iterator c.loop-time.sink c.loop-time.out c.in-None.ensures.steps.0 c.loop-time.invariant)
