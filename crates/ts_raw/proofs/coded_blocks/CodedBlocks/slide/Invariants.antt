use Rattle.std.proofs.Common.{◌≡◌, ◌-◌, vec_len}
use Rattle.ts_raw.proofs.SlidingLemmas.{AreSliding}
use Rattle.ts_raw.proofs.coded_blocks.CodedBlocks.slide.Given as goal

abbrev pub invariant-loop-at : goal.invariant-loop-at
invariant-loop-at g l = record {
  sliding : AreSliding l.fn.self.bytes.items l.fn.self.handles.items l.self.bytes.items l.self.handles.items l.to l.from;
  counts : (l.self.total ≡ l.fn.self.total) × (l.self.cut ≡ l.fn.self.cut);
}

abbrev pub decreases-loop-at : goal.decreases-loop-at
decreases-loop-at g l = vec_len l.self.bytes - l.from
