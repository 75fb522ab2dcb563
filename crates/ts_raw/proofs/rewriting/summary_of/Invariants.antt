use Rattle.std.proofs.Common.{◌≡◌, ◌+◌, ◌≤◌, length}
use Rattle.ts_core.specs.aggregates.Aggregates.{merged, aggregate_of_points}
use Rattle.ts_raw.proofs.rewriting.summary_of.Given as goal

abbrev pub invariant-loop-point : goal.invariant-loop-point
invariant-loop-point l = record {
  can : (goal.iterator-loop-point).can_next l.rest × (goal.iterator-loop-point).is_finite l.rest;
  so_far : merged l.summary (aggregate_of_points l.rest) ≡ aggregate_of_points l.fn.decoder;
  few : l.summary.count + length l.rest ≤ 256;
}
