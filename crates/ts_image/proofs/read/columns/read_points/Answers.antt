use Rattle.std.proofs.Common.{ℤ, ◌-◌, List, arith, refl}
use Rattle.ts_image.specs.PointParts.{point_of}
use Rattle.std.proofs.lemmas.Result.{err_from_is_err_and}
use Rattle.ts_core.proofs.lists.Remaining.{one_left}
use Rattle.ts_image.specs.Images.{image_point}
use Rattle.ts_image.proofs.Loops.{starts, goes_on, breaks, no_memory_left, finishes}
use Rattle.ts_image.proofs.read.columns.read_points.Goals as goal

abbrev as_they_are : List (ℤ × ℤ) → List (ℤ × ℤ)
as_they_are points = points

pub loop-init : goal.loop-init
loop-init g c = starts image_point c.args.count c.args.reader.now c.args.source.now (c.args.count - 0) c.new-points.result (omega arith) c.new-points.ensures c.requires

pub returns-in_err-point : goal.returns-in_err-point
returns-in_err-point g c =
    let p = err_from_is_err_and c.from_residual.result c.from_residual.ensures.1 in
    rw (p.1, p.2) (breaks image_point c.args.count c.args.reader.now c.args.source.now point_of _ _ (one_left c.args.count c.loop.counter c.loop-test.true) c.loop.points c.loop.reader c.read_point.new.reader c.loop.source c.read_point.new.source c.loop.invariant as_they_are c.in_err-point.field-0.0 c.in_err-point.ensures)

pub returns-in_err-push : goal.returns-in_err-push
returns-in_err-push g c =
    let p = err_from_is_err_and c.from_residual-in_err-push.result c.from_residual-in_err-push.ensures.1 in
    rw (p.1, p.2) (no_memory_left image_point c.args.count c.args.reader.now c.args.source.now point_of _ _ (one_left c.args.count c.loop.counter c.loop-test.true) c.loop.points c.loop.reader c.read_point.new.reader c.loop.source c.read_point.new.source c.loop.invariant as_they_are c.in_ok-point.point c.in_ok-point.ensures)

pub loop-preserved : goal.loop-preserved
loop-preserved g c =
    goes_on image_point c.args.count c.args.reader.now c.args.source.now point_of _ _ (one_left c.args.count c.loop.counter c.loop-test.true) c.loop.points c.loop.reader c.read_point.new.reader c.loop.source c.read_point.new.source c.loop.invariant c.in_ok-point.point _ c.in_ok-push.ensures c.in_ok-point.ensures

pub returns : goal.returns
returns g c = finishes image_point c.args.count c.args.reader.now c.args.source.now (c.args.count - c.loop.counter) (omega arith) c.loop.points c.loop.reader c.loop.source as_they_are c.loop.points c.loop.invariant refl
