use Rattle.tsdb.specs.Exports.{point_line}
use Rattle.tsdb.proofs.AppendLemmas.{Going}
use Rattle.tsdb.proofs.export.put_points.Given as goal

abbrev pub invariant-loop-time : goal.invariant-loop-time
invariant-loop-time g l = Going (point_line l.head) l.initial.sink l.initial.out l.fn.points l.time-iterator l.sink l.out
