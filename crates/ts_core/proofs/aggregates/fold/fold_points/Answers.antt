use Rattle.std.proofs.Common.{◌^◌, ap, ap₂, ◌∙◌, rules, ℤ, SFits, w64, to_z-of_z}
use Rattle.ts_core.proofs.aggregates.Folds.{fold-take_more, fold-take_room}
use Rattle.ts_core.proofs.aggregates.fold.fold_points.Goals as goal

pub merge-total-requires : goal.merge-total-requires
merge-total-requires g c =
    let p = g.P.Partial in
    let laws = g.met.P.Partial.laws in
    let fits : SFits w64 c.point-item.result.1 = search rules in
    let one = c.single.ensures ∙ ap (p.one c.point-item.result.0) (to_z-of_z fits) in
    rw (c.loop-point.invariant, one)
    (fold-take_room laws (λ (x : ℤ × ℤ). p.one x.0 x.1) (λ x. laws.count_single x.0 x.1) c.args.points.now c.loop-point.point-index (2 ^ 62) c.point-item.result c.loop-point-test.true c.requires)

pub loop-point-preserved : goal.loop-point-preserved
loop-point-preserved g c =
    let p = g.P.Partial in
    let laws = g.met.P.Partial.laws in
    let fits : SFits w64 c.point-item.result.1 = search rules in
    c.merge-total.ensures ∙ ap₂ p.join c.loop-point.invariant (c.single.ensures ∙ ap (p.one c.point-item.result.0) (to_z-of_z fits))
    ∙ fold-take_more laws (λ (x : ℤ × ℤ). p.one x.0 x.1) c.args.points.now c.loop-point.point-index c.point-item.result c.loop-point-test.true c.point-item.is
