use Rattle.std.proofs.Common.{◌≡◌, length}
use Rattle.ts_store.specs.image.FrozenLeft.{frozen_left}
use Rattle.ts_store.proofs.image.frozen_cells.next_frozen.Given as goal

abbrev pub invariant-loop-kept : goal.invariant-loop-kept
invariant-loop-kept g l = frozen_left l.left ≡ frozen_left l.initial.left

abbrev pub decreases-loop-kept : goal.decreases-loop-kept
decreases-loop-kept g l = length l.left
