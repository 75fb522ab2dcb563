use Rattle.std.proofs.Common.{rules, ◌≤ℤ◌, ◌<ℤ◌, to_z, of_z, SFits, to_z-of_z}
use Rattle.std.specs.Int.{w128}
use Rattle.ts_store.specs.rollup.BucketsTaken.{TakesBucket}
use Rattle.ts_store.proofs.rollup.CellsCreated.{makes_both, makes_none, bucket_passes, bucket_makes}
use Rattle.ts_store.proofs.retain.PointsFrozen.{grid_kept_then}
use Rattle.ts_store.proofs.rollup.cells_filled.make_run.Goals as goal

pub loop-index-preserved-in-Continue-1 : goal.loop-index-preserved-in-Continue-1
loop-index-preserved-in-Continue-1 g c =
    let t : TakesBucket c.args.rule.now c.in-Some.index c.in-Some.field-0-1.now c.loop-index.run c.take_bucket.new.run = c.in-Some.ensures in
    let fits : SFits w128 c.in-Some.index = search rules in
    let low_fits : SFits w128 c.args.low.now = search rules in
    let reached : to_z w128 (of_z w128 c.args.low.now) ≤ℤ to_z w128 (of_z w128 c.in-Some.index) = search rules in
    let above : c.args.low.now ≤ℤ c.in-Some.index = rw (to_z-of_z low_fits, to_z-of_z fits) at reached in
    record {
      kept = grid_kept_then c.args.rollup.now c.loop-index.rollup c.make_room_in.new.self _ c.loop-index.invariant.kept c.in_ok-make_room_in.ensures.ok;
      cells = λ u h. c.loop-index.invariant.cells u (makes_both _ _ _ _ _ _ c.loop-index.rollup c.make_room_in.new.self u t.points (bucket_makes _ _ _ _ _ _ _ _ t _ _ above (to_z-of_z fits) c.in_ok-make_room_in.ensures.ok) h);
    }

pub loop-index-preserved : goal.loop-index-preserved
loop-index-preserved g c =
    let t : TakesBucket c.args.rule.now c.in-Some.index c.in-Some.field-0-1.now c.loop-index.run c.take_bucket.new.run = c.in-Some.ensures in
    let fits : SFits w128 c.in-Some.index = search rules in
    let low_fits : SFits w128 c.args.low.now = search rules in
    let missed : to_z w128 (of_z w128 c.in-Some.index) <ℤ to_z w128 (of_z w128 c.args.low.now) = search rules in
    let below : c.in-Some.index <ℤ c.args.low.now = rw (to_z-of_z low_fits, to_z-of_z fits) at missed in
    record {
      kept = c.loop-index.invariant.kept;
      cells = λ u h. c.loop-index.invariant.cells u (makes_both _ _ _ _ _ _ c.loop-index.rollup c.loop-index.rollup u t.points (bucket_passes _ _ _ _ _ _ _ _ t below) h);
    }

pub returns-clause-cells : goal.returns-clause-cells
returns-clause-cells g c = c.loop-index.invariant.cells c.loop-index.rollup (makes_none _ _ _ _ _ (search rules))
