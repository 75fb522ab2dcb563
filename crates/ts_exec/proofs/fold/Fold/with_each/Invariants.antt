use Rattle.std.proofs.Common.{◌≡◌, take}
use Rattle.ts_exec.specs.RowParts.{part_with}
use Rattle.ts_exec.proofs.fold.Fold.with_each.Given as goal

abbrev pub invariant-loop-point : goal.invariant-loop-point
invariant-loop-point g l = g.Self.Fold.folded l.fold ≡ part_with g.Self.Fold.parts (g.Self.Fold.folded l.fn.self) (take l.point-index l.points)
