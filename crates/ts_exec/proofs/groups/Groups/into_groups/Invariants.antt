use Rattle.std.proofs.Common.{◌≡◌, ◌++◌}
use Rattle.ts_exec.specs.Slots.{made}
use Rattle.ts_exec.proofs.groups.Groups.into_groups.Given as goal

abbrev pub invariant-loop-slot : goal.invariant-loop-slot
invariant-loop-slot g l = l.groups.items ++ made l.slot-iterator.rest.items ≡ l.fn.self
