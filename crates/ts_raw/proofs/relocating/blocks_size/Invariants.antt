use Rattle.std.proofs.Common.{◌≤◌, take}
use Rattle.ts_raw.specs.Sliding.{bytes_in_blocks}
use Rattle.ts_raw.proofs.relocating.blocks_size.Given as goal

abbrev pub invariant-loop-handle : goal.invariant-loop-handle
invariant-loop-handle l = l.size ≤ bytes_in_blocks (take l.handle-index l.handles)
