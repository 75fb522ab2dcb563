use Rattle.std.proofs.Common.{rules, ◌+◌, ◌<◌, ℕ, List, length, ap, arith}
use Rattle.ts_raw.specs.declared.block_handle.BlockHandle.{BlockHandle}
use Rattle.ts_raw.proofs.RewriteLemmas.{count_next, count_front}
use Rattle.ts_raw.proofs.coded.count_of.Goals as goal

pub overflow_add-total : goal.overflow_add-total
overflow_add-total c =
    let all : List BlockHandle = c.args.handles.now in
    let i : ℕ = c.loop-handle.handle-index in
    let l : i < length all = search rules in
    let n = count_next all i c.handle-item.result l in
    let is = ap (λ (m : BlockHandle). m.count) c.handle-item.is in
    let f = count_front all (i + 1) in
    let few = c.requires in
    let so = c.loop-handle.invariant in
    record { fits = omega arith }

pub loop-handle-preserved : goal.loop-handle-preserved
loop-handle-preserved c =
    let all : List BlockHandle = c.args.handles.now in
    let i : ℕ = c.loop-handle.handle-index in
    let l : i < length all = search rules in
    let n = count_next all i c.handle-item.result l in
    let is = ap (λ (m : BlockHandle). m.count) c.handle-item.is in
    let so = c.loop-handle.invariant in
    omega arith
