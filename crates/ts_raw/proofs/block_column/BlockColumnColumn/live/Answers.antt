use Rattle.std.proofs.Common.{length-drop, sym, ap, ◌∙◌}
use Rattle.std.specs.FinMap as map
use Rattle.ts_raw.specs.BlockColumns.{BlockColumnState}
use Rattle.ts_raw.specs.CodedPoints.{coded_points}
use Rattle.ts_raw.proofs.CutLemmas.{cut_length}
use Rattle.ts_raw.proofs.block_column.BlockColumnColumn.live.Goals as goal

pub returns : goal.returns
returns g c =
    let b = c.self.inside.blocks in
    let points = coded_points b.bytes.items b.handles.items in
    c.live.ensures ∙ length-drop b.cut points ∙ sym (cut_length b.cut points c.self.invariant.sound.counted.coded.rising) ∙ ap (λ (s : BlockColumnState). map.len s.points) c.self.view_is
