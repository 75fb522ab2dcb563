use Rattle.std.proofs.Common.{rules, ◌<◌, ◌^◌, ap, sym, subst, ◌∙◌, SFits, w64, to_z-of_z}
use Rattle.ts_core.specs.aggregates.Aggregates.{Aggregate, merged}
use Rattle.ts_exec.specs.RowParts.{part_of_point}
use Rattle.ts_exec.proofs.Folded.{merged-room, merged-more}
use Rattle.ts_exec.proofs.fold.Fold.with_each.Goals as goal

pub with-fold-requires : goal.with-fold-requires
with-fold-requires g c =
    subst (λ (a : Aggregate). a.count < 2 ^ 62) (sym c.loop-point.invariant)
    (merged-room g.Self.Fold.parts (g.Self.Fold.folded c.args.self) c.args.points.now c.loop-point.point-index c.loop-point-test.true c.requires)

pub loop-point-preserved : goal.loop-point-preserved
loop-point-preserved g c =
    let fits : SFits w64 c.point-item.result.1 = search rules in
    c.with-fold.ensures ∙ ap (λ z. merged (g.Self.Fold.folded c.loop-point.fold) (part_of_point g.Self.Fold.parts c.point-item.result.0 z)) (to_z-of_z fits)
    ∙ ap (λ (a : Aggregate). merged a (part_of_point g.Self.Fold.parts c.point-item.result.0 c.point-item.result.1)) c.loop-point.invariant
    ∙ merged-more g.Self.Fold.parts (g.Self.Fold.folded c.args.self) c.args.points.now c.loop-point.point-index c.point-item.result c.loop-point-test.true c.point-item.is
