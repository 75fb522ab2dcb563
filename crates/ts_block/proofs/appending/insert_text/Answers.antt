use Rattle.std.proofs.Common.{◌≡◌, ◌∙◌, ◌-◌, ◌≤◌, length, arith, rules}
use Rattle.ts_block.proofs.MovingLemmas.{text_written}
use Rattle.ts_block.proofs.appending.insert_text.Goals as goal

pub returns : goal.returns
returns c =
    let few : length c.args.bytes.now - c.args.end ≤ 10 = omega arith in
    let ten : length c.args.text ≡ 10 = search rules in
    let size : length c.put_chunk.new.bytes - c.args.end ≡ length c.args.bytes.now - c.args.end = omega arith in
    c.put_chunk-2.ensures.after
    ∙ text_written c.args.bytes.now c.args.end c.requires.end c.move_chunks.new.bytes c.move_chunks.result c.args.at few c.move_chunks.ensures.at c.move_chunks.ensures.left c.requires.many c.move_chunks.ensures.after
    c.args.text c.chunk_at-front.result ten c.chunk_at-front.ensures c.put_chunk.new.bytes c.put_chunk.ensures.after (length c.put_chunk.new.bytes - c.args.end) size
