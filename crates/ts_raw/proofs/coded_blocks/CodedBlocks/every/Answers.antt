use Rattle.std.proofs.Common.{◌≡◌, length, length-drop, arith}
use Rattle.ts_raw.specs.CodedPoints.{coded_points}
use Rattle.ts_raw.proofs.ColumnBlocks.{cut_within}
use Rattle.ts_raw.proofs.coded_blocks.CodedBlocks.every.Goals as goal

pub walk-requires-clause-enough : goal.walk-requires-clause-enough
walk-requires-clause-enough g c =
    let b = c.args.self.now in
    let points = coded_points b.bytes.items b.handles.items in
    let fits = cut_within b.bytes.items b.handles.items b.cut c.requires.sound.cut_fits in
    let left = length-drop b.cut points in
    let count = c.live-count.ensures in
    let same : length (coded_points c.as_slice.result.now c.as_slice-2.result.now) ≡ length points = λ i. length (coded_points (c.as_slice.ensures.value i) (c.as_slice-2.ensures.value i)) in
    omega arith
