use Rattle.std.proofs.Common.{◌≡◌, take}
use Rattle.ts_core.specs.aggregates.Partials.{fold_by}
use Rattle.ts_core.proofs.aggregates.fold.fold_points.Given as goal

abbrev pub invariant-loop-point : goal.invariant-loop-point
invariant-loop-point g l = l.total ≡ fold_by g.P.Partial.nil g.P.Partial.join (λ p. g.P.Partial.one p.0 p.1) (take l.point-index l.points)
