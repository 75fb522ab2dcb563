use Rattle.std.proofs.Common.{◌≡◌, length}
use Rattle.ts_exec.specs.RowParts.{IsRun, with_part, with_point_parts}
use Rattle.ts_exec.proofs.rows.continue_run.Given as goal

abbrev pub invariant-loop-points : goal.invariant-loop-points
invariant-loop-points g l =
    let part = g.F.Fold.folded l.run.fold in
    record {
      value : with_point_parts g.F.Fold.parts l.buckets l.points (with_part l.run.row_index part l.rows) ≡ with_point_parts g.F.Fold.parts l.fn.buckets l.fn.points (with_part l.fn.run.row_index (g.F.Fold.folded l.fn.run.fold) l.fn.rows);
      same : l.buckets ≡ l.fn.buckets;
      run : IsRun l.buckets l.rows (length l.points) l.run.low l.run.high l.run.row_index part;
    }

abbrev pub decreases-loop-points : goal.decreases-loop-points
decreases-loop-points g l = length l.points
