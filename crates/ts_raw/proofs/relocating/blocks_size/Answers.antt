use Rattle.std.proofs.Common.{rules, ◌-◌, ◌<◌, length, ap, arith}
use Rattle.ts_raw.specs.declared.block_handle.BlockHandle.{BlockHandle}
use Rattle.ts_raw.proofs.SlidingLemmas.{bytes_next}
use Rattle.ts_raw.proofs.relocating.blocks_size.Goals as goal

pub loop-handle-preserved : goal.loop-handle-preserved
loop-handle-preserved c =
    let within : c.loop-handle.handle-index < length c.args.handles.now = search rules in
    let next = bytes_next c.args.handles.now c.loop-handle.handle-index c.handle-item.result within in
    let size = ap (λ (m : BlockHandle). m.end - m.start) c.handle-item.is in
    let sub = c.saturating_sub.ensures in
    let sum = c.saturating_add-size.ensures in
    let old = c.loop-handle.invariant in
    omega arith
