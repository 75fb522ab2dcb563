use Rattle.std.proofs.Common.{◌≡◌, take, w64}
use Rattle.std.specs.Int.{int_wrap}
use Rattle.ts_core.specs.aggregates.Aggregates.{sum_of_points}
use Rattle.ts_exec.proofs.Halves.{AreHalved}
use Rattle.ts_exec.proofs.fold.sum_of_values.Given as goal

abbrev pub invariant-loop-point : goal.invariant-loop-point
invariant-loop-point l =
    (l.wrapped ≡ int_wrap w64 (sum_of_points (take l.point-index l.points)))
    × AreHalved l.point-index (sum_of_points (take l.point-index l.points)) l.high
