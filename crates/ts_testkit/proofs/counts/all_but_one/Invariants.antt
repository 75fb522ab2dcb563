use Rattle.std.proofs.Common.{◌≡◌, ◌+◌, ◌^◌}
use Rattle.ts_testkit.proofs.counts.all_but_one.Given as goal

abbrev pub invariant-loop : goal.invariant-loop
invariant-loop l = l.total.count + 1 ≡ 2 ^ l.counter
