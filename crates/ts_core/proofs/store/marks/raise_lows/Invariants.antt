use Rattle.std.proofs.Common.{◌≡◌, take}
use Rattle.ts_core.specs.moves.StoreMoves.{raised}
use Rattle.ts_core.proofs.store.marks.raise_lows.Given as goal

abbrev pub invariant-loop-i : goal.invariant-loop-i
invariant-loop-i g l = l.lows ≡ raised l.now (take l.i l.rules) l.initial.lows
