use Rattle.std.proofs.Common.{ap, arith}
use Rattle.ts_raw.specs.declared.block_handle.BlockHandle.{BlockHandle}
use Rattle.ts_raw.proofs.RewriteLemmas.{count_split, count_replaced, count_new_few}
use Rattle.ts_raw.proofs.rewriting.replace_handles.Goals as goal

pub overflow_sub-others : goal.overflow_sub-others
overflow_sub-others g c =
    let a = count_split c.args.handles.now.items c.args.new.now.at c.index.result.now c.requires.within in
    let is = ap (λ (m : BlockHandle). m.count) c.index.ensures in
    let t = c.requires.total in
    omega arith

pub count_of_new-requires : goal.count_of_new-requires
count_of_new-requires g c = let a = count_new_few c.args.new.now c.args.handles.now.items in let few = c.requires.few in omega arith

pub overflow_add-result : goal.overflow_add-result
overflow_add-result g c =
    let a = count_replaced c.args.new.now c.args.handles.now.items c.index.result.now c.requires.within in
    let b = count_split c.args.handles.now.items c.args.new.now.at c.index.result.now c.requires.within in
    let is = ap (λ (m : BlockHandle). m.count) c.index.ensures in
    let t = c.requires.total in
    let few = c.requires.few in
    let n = c.count_of_new.ensures in
    record { fits = omega arith }

pub returns-clause-total : goal.returns-clause-total
returns-clause-total g c =
    let a = count_replaced c.args.new.now c.args.handles.now.items c.index.result.now c.requires.within in
    let b = count_split c.args.handles.now.items c.args.new.now.at c.index.result.now c.requires.within in
    let is = ap (λ (m : BlockHandle). m.count) c.index.ensures in
    let t = c.requires.total in
    let n = c.count_of_new.ensures in
    omega arith
