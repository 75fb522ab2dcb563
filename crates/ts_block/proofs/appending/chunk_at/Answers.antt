use Rattle.std.proofs.Common.{◌∙◌, ◌+◌, ◌-◌, drop, arith}
use Rattle.std.proofs.lemmas.List.{take-take}
use Rattle.ts_block.proofs.appending.chunk_at.Goals as goal

pub returns : goal.returns
returns c =
    let h = rw c.unwrap.ensures at c.first_chunk.ensures.cases in
    h.same ∙ take-take 64 (c.args.at + 64 - c.args.at) (drop c.args.at c.args.bytes.now) (omega arith)
