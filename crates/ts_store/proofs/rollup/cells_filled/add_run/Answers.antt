use Rattle.std.proofs.Common.{rules, ◌<◌, length, arith, SFits, to_z-of_z}
use Rattle.std.specs.Int.{w128}
use Rattle.ts_store.specs.rollup.BucketsTaken.{TakesBucket}
use Rattle.ts_store.proofs.rollup.BucketsTakenLemmas.{fewer_left}
use Rattle.ts_store.proofs.rollup.CellsCreated.{adds_both, adds_none, bucket_adds}
use Rattle.ts_store.proofs.retain.PointsFrozen.{grid_kept_then}
use Rattle.ts_store.proofs.rollup.cells_filled.add_run.Goals as goal

pub loop-index-preserved : goal.loop-index-preserved
loop-index-preserved g c =
    let t : TakesBucket c.args.rule.now c.in-Some.index c.in-Some.points.now c.loop-index.run c.take_bucket.new.run = c.in-Some.ensures in
    let fits : SFits w128 c.in-Some.index = search rules in
    let fewer : length c.take_bucket.new.run < length c.loop-index.run = fewer_left _ _ _ _ _ t in
    let few = c.loop-index.invariant.few in
    record {
      kept = grid_kept_then c.args.rollup.now c.loop-index.rollup c.add.new.self _ c.loop-index.invariant.kept c.add.ensures;
      few = omega (arith, fewer, few);
      adds = λ u h. c.loop-index.invariant.adds u (adds_both _ _ _ _ _ c.loop-index.rollup c.add.new.self u t.points (bucket_adds _ _ _ _ _ _ _ _ _ _ t (to_z-of_z fits) c.aggregate_points.ensures.fold c.add.ensures) h);
    }

pub returns : goal.returns
returns g c = c.loop-index.invariant.adds c.loop-index.rollup (adds_none _ _ _ _ (search rules))
