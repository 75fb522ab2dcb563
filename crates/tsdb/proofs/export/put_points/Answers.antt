use Rattle.std.proofs.Common.{rules, ◌≡◌, ℤ, ◌∷◌, subst, SFits, w64, to_z-of_z}
use Rattle.std.proofs.lemmas.Result.{err_from_is_err_and}
use Rattle.ts_core.specs.io.OutputBuffering.{IsBuffered}
use Rattle.ts_core.proofs.io.OutputBufferLemmas.{done, refused}
use Rattle.tsdb.specs.Exports.{point_line}
use Rattle.tsdb.proofs.AppendLemmas.{going_starts, going_on, going_stops, going_ends}
use Rattle.tsdb.proofs.export.put_points.Goals as goal

pub loop-time-init : goal.loop-time-init
loop-time-init g c =
    let e : c.into_iter-time-iterator.result ≡ c.args.points = search rules in
    going_starts (point_line c.args.head.now) c.args.sink.now c.args.out.now c.args.points c.into_iter-time-iterator.result e

pub returns-in_err-put_point : goal.returns-in_err-put_point
returns-in_err-put_point g c =
    let t : ℤ = c.in-Some.time in
    let v : ℤ = c.in-Some.value in
    let left : c.loop-time.time-iterator ≡ (t, v) ∷ c.next.new.self = search rules in
    let f : SFits w64 v = search rules in
    let put = subst (λ (z : ℤ). IsBuffered c.loop-time.sink c.loop-time.out (refused c.in_err-put_point.field-0.0) (point_line c.args.head.now (t, z)) c.put_point.new.sink c.put_point.new.out) (to_z-of_z f) c.in_err-put_point.ensures in
    let p = err_from_is_err_and c.from_residual.result c.from_residual.ensures.1 in
    rw p.1 (going_stops (point_line c.args.head.now) c.args.sink.now c.args.out.now c.args.points c.loop-time.time-iterator c.next.new.self (t, v) c.loop-time.sink c.put_point.new.sink c.loop-time.out c.put_point.new.out _ _ left c.loop-time.invariant put)

pub loop-time-preserved : goal.loop-time-preserved
loop-time-preserved g c =
    let t : ℤ = c.in-Some.time in
    let v : ℤ = c.in-Some.value in
    let left : c.loop-time.time-iterator ≡ (t, v) ∷ c.next.new.self = search rules in
    let f : SFits w64 v = search rules in
    let put = subst (λ (z : ℤ). IsBuffered c.loop-time.sink c.loop-time.out done (point_line c.args.head.now (t, z)) c.put_point.new.sink c.put_point.new.out) (to_z-of_z f) c.in_ok-put_point.ensures in
    going_on (point_line c.args.head.now) c.args.sink.now c.args.out.now c.args.points c.loop-time.time-iterator c.next.new.self (t, v) c.loop-time.sink c.put_point.new.sink c.loop-time.out c.put_point.new.out left c.loop-time.invariant put

pub returns : goal.returns
returns g c =
    going_ends (point_line c.args.head.now) c.args.sink.now c.args.out.now c.args.points c.loop-time.time-iterator c.loop-time.sink c.loop-time.out c.in-None.ensures.steps.0 c.loop-time.invariant
