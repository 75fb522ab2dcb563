use Rattle.std.proofs.Common.{◌≡◌, ◌+◌, ◌^◌, ◌<◌, length}
use Rattle.ts_exec.specs.RowParts.{IsRun, with_part, with_point_parts}
use Rattle.ts_exec.proofs.rows.extend_runs.Given as goal

abbrev pub invariant-loop-point : goal.invariant-loop-point
invariant-loop-point g l =
    let part = g.F.Fold.folded l.run.fold in
    record {
      value : with_point_parts g.F.Fold.parts l.buckets l.points (with_part l.run.row_index part l.rows) ≡ with_point_parts g.F.Fold.parts l.fn.buckets l.fn.points (with_part l.fn.run.row_index (g.F.Fold.folded l.fn.run.fold) l.fn.rows);
      same : l.buckets ≡ l.fn.buckets;
      few : length l.points + l.fn.others < 2 ^ 64;
      run : IsRun l.buckets l.rows (length l.points + l.fn.others) l.run.low l.run.high l.run.row_index part;
    }

abbrev pub decreases-loop-point : goal.decreases-loop-point
decreases-loop-point g l = length l.points
