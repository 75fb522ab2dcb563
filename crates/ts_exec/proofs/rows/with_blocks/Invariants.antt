use Rattle.std.proofs.Common.{length}
use Rattle.ts_exec.specs.RowParts.{AreMerged}
use Rattle.ts_exec.proofs.rows.with_blocks.Given as goal

abbrev pub invariant-loop-part : goal.invariant-loop-part
invariant-loop-part g l = AreMerged g.F.Fold.parts l.low l.high (g.F.Fold.folded l.initial.fold) (g.F.Fold.folded l.fold) l.initial.points l.points

abbrev pub decreases-loop-part : goal.decreases-loop-part
decreases-loop-part g l = length l.points
