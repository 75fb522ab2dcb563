use Rattle.std.proofs.Common.{◌≡◌, take}
use Rattle.ts_raw.specs.CodedPoints.{AreBlocks, AreApart, blocks_at}
use Rattle.ts_raw.proofs.relocating.copy_blocks.Given as goal

abbrev pub invariant-loop-handle : goal.invariant-loop-handle
invariant-loop-handle g l = record {
  marked : AreBlocks l.new_bytes.items l.new_handles.items;
  apart : AreApart l.new_handles.items;
  blocks : blocks_at l.new_bytes.items l.new_handles.items ≡ blocks_at l.bytes (take l.handle-index l.handles);
}
