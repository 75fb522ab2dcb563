use Rattle.std.proofs.Common.{rules, List, take, ap, Fits, w64, arith}
use Rattle.ts_raw.specs.declared.block_handle.BlockHandle.{BlockHandle}
use Rattle.ts_raw.specs.CodedPoints.{count_in_blocks}
use Rattle.ts_raw.proofs.RewriteLemmas.{count_front}
use Rattle.ts_raw.proofs.rewriting.remove_front.Goals as goal

pub count_of-removed-requires : goal.count_of-removed-requires
count_of-removed-requires g c =
    let e = ap (λ (x : List BlockHandle). count_in_blocks (take c.args.count x)) c.as_slice.ensures.value in
    let a = count_front c.args.handles.now.items c.args.count in
    let t = c.requires.total in
    let fits : Fits w64 c.args.total = search rules in
    let top = fits.fits in
    omega arith

pub overflow_sub-result : goal.overflow_sub-result
overflow_sub-result g c =
    let e = ap (λ (x : List BlockHandle). count_in_blocks (take c.args.count x)) c.as_slice.ensures.value in
    let a = count_front c.args.handles.now.items c.args.count in
    let t = c.requires.total in
    let n = c.count_of-removed.ensures in
    omega arith

pub returns-clause-total : goal.returns-clause-total
returns-clause-total g c =
    let e = ap (λ (x : List BlockHandle). count_in_blocks (take c.args.count x)) c.as_slice.ensures.value in
    let a = count_front c.args.handles.now.items c.args.count in
    let t = c.requires.total in
    let n = c.count_of-removed.ensures in
    omega arith
