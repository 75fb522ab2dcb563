use Rattle.std.proofs.Common.{◌≤◌}
use Rattle.tsdb.specs.ServedRequests.{WentBy}
use Rattle.tsdb.proofs.requests.serve_all.Given as goal

abbrev pub invariant-loop-stream : goal.invariant-loop-stream
invariant-loop-stream g l = record {
  ready : (goal.iterator-loop-stream g).can_next l.stream-iterator;
  finite : (goal.iterator-loop-stream g).is_finite l.stream-iterator;
  left : 1 ≤ l.left;
  went : WentBy l.fn.store l.store;
}
