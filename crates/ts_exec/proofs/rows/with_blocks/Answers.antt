use Rattle.std.proofs.Common.{rules, ℤ, SFits, to_z, of_z, to_z-of_z, w64, subst, sym}
use Rattle.ts_core.specs.aggregates.Aggregates.{Aggregate}
use Rattle.ts_exec.specs.RowParts.{AreMerged}
use Rattle.ts_exec.proofs.Blocks.{front-some, front-sound, front-few, front-merged}
use Rattle.ts_exec.proofs.rows.with_blocks.Goals as goal

pub with_part-fold-requires-clause-some : goal.with_part-fold-requires-clause-some
with_part-fold-requires-clause-some g c = front-some _ _ _ _ c.in-Some.part c.in-Some.ensures

pub with_part-fold-requires-clause-sound : goal.with_part-fold-requires-clause-sound
with_part-fold-requires-clause-sound g c = front-sound _ _ _ _ c.in-Some.part c.in-Some.ensures

pub with_part-fold-requires-clause-few : goal.with_part-fold-requires-clause-few
with_part-fold-requires-clause-few g c =
    let low : ℤ = to_z w64 (of_z w64 c.args.low) in
    let high : ℤ = to_z w64 (of_z w64 c.args.high) in
    let from : SFits w64 c.args.low = search rules in
    let to : SFits w64 c.args.high = search rules in
    front-few low high c.loop-part.points c.next_whole.new.self c.in-Some.part c.in-Some.ensures g.F.Fold.parts (g.F.Fold.folded c.args.fold) (g.F.Fold.folded c.loop-part.fold) c.args.points.now c.loop-part.invariant (rw (to_z-of_z from, to_z-of_z to) c.requires)

pub loop-part-preserved : goal.loop-part-preserved
loop-part-preserved g c =
    let low : ℤ = to_z w64 (of_z w64 c.args.low) in
    let high : ℤ = to_z w64 (of_z w64 c.args.high) in
    let a : Aggregate = c.in-Some.part in
    let next : Aggregate = g.F.Fold.folded c.loop-part.fold in
    subst (λ (x : Aggregate). AreMerged g.F.Fold.parts low high (g.F.Fold.folded c.args.fold) x c.args.points.now c.next_whole.new.self) (sym c.with_part-fold.ensures)
    (front-merged low high c.loop-part.points c.next_whole.new.self a c.in-Some.ensures g.F.Fold.parts (g.F.Fold.folded c.args.fold) next c.args.points.now c.loop-part.invariant)
