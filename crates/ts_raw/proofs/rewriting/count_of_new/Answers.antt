use Rattle.std.proofs.Common.{◌∷◌, option_to_list, Option, ap, arith}
use Rattle.ts_raw.specs.declared.block_handle.BlockHandle.{BlockHandle}
use Rattle.ts_raw.specs.CodedPoints.{count_in_blocks}
use Rattle.ts_raw.proofs.rewriting.count_of_new.Goals as goal

pub overflow_add-result : goal.overflow_add-result
overflow_add-result c =
    let first : BlockHandle = c.args.new.now.first in
    let e = ap (λ (s : Option BlockHandle). count_in_blocks (first ∷ option_to_list s)) c.in-Some.is in
    let few = c.requires in
    record { fits = omega arith }

pub returns-in-Some : goal.returns-in-Some
returns-in-Some c =
    let first : BlockHandle = c.args.new.now.first in
    let e = ap (λ (s : Option BlockHandle). count_in_blocks (first ∷ option_to_list s)) c.in-Some.is in
    omega arith

pub returns-in-None : goal.returns-in-None
returns-in-None c =
    let first : BlockHandle = c.args.new.now.first in
    let e = ap (λ (s : Option BlockHandle). count_in_blocks (first ∷ option_to_list s)) c.in-None.is in
    omega arith
