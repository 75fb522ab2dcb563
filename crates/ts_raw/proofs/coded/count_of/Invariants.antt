use Rattle.std.proofs.Common.{◌≡◌, take}
use Rattle.ts_raw.specs.CodedPoints.{count_in_blocks}
use Rattle.ts_raw.proofs.coded.count_of.Given as goal

abbrev pub invariant-loop-handle : goal.invariant-loop-handle
invariant-loop-handle l = l.total ≡ count_in_blocks (take l.handle-index l.handles)
