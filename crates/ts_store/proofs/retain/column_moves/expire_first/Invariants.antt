use Rattle.std.proofs.Common.{take}
use Rattle.ts_store.specs.rollup.ChangedLists.{ChangesBeside}
use Rattle.ts_store.proofs.rollup.ChangedListsLemmas.{IsExpired}
use Rattle.ts_store.proofs.retain.column_moves.expire_first.Given as goal

abbrev pub invariant-loop-i : goal.invariant-loop-i
invariant-loop-i g l = ChangesBeside (λ low. IsExpired low 0) (take l.i l.lows) l.initial.rollups l.rollups
