use Rattle.std.proofs.Common.{◌≡◌, ◌∙◌, ◌+◌, ◌-◌, refl, arith}
use Rattle.ts_block.proofs.MovingLemmas.{none_moved, one_more}
use Rattle.ts_block.proofs.appending.move_chunks.Goals as goal

pub loop-left-init : goal.loop-left-init
loop-left-init c = record { low = c.requires.at; high = omega arith; same = refl; moved = none_moved c.args.bytes.now c.args.end c.requires.end }

pub loop-left-preserved : goal.loop-left-preserved
loop-left-preserved c = record {
  low = omega arith;
  high = omega arith;
  same = c.put_chunk.ensures.len ∙ c.loop-left.invariant.same;
  moved =
      c.put_chunk.ensures.after
      ∙ one_more c.args.bytes.now c.args.end c.requires.end c.loop-left.bytes c.loop-left.left (c.loop-left.left - 64) c.loop-left.invariant.high (let h : c.loop-left.left - 64 + 64 ≡ c.loop-left.left = omega arith in h)
      c.loop-left.invariant.moved c.chunk_at-chunk.result c.chunk_at-chunk.ensures;
}
