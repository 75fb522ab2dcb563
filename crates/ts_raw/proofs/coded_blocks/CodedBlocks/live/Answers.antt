use Rattle.std.proofs.Common.{arith}
use Rattle.ts_raw.proofs.ColumnBlocks.{cut_within}
use Rattle.ts_raw.proofs.coded_blocks.CodedBlocks.live.Goals as goal

pub overflow_sub-result : goal.overflow_sub-result
overflow_sub-result g c =
    let fits = cut_within c.args.self.now.bytes.items c.args.self.now.handles.items c.args.self.now.cut c.requires.sound.cut_fits in
    let total = c.requires.sound.counted.total_is in
    omega arith
