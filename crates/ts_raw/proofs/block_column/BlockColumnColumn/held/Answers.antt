use Rattle.std.proofs.Common.{◌≡◌, ◌-◌, length, sym, ap, ◌∙◌, arith}
use Rattle.std.specs.FinMap as map
use Rattle.ts_raw.specs.BlockColumns.{BlockColumnState}
use Rattle.ts_raw.specs.CodedPoints.{all_joined, coded_points}
use Rattle.ts_raw.proofs.BlockLists.{coded_concat}
use Rattle.ts_raw.proofs.CutLemmas.{cut_length}
use Rattle.ts_raw.proofs.ColumnBlocks.{cut_few}
use Rattle.ts_raw.proofs.block_column.BlockColumnColumn.held.Goals as goal

pub returns-clause-all : goal.returns-clause-all
returns-clause-all g c =
    let points = coded_points c.self.inside.blocks.bytes.items c.self.inside.blocks.handles.items in
    let n : map.len c.args.self.now.points ≡ length points - c.self.inside.blocks.cut = sym (ap (λ (s : BlockColumnState). map.len s.points) c.self.view_is) ∙ cut_length c.self.inside.blocks.cut points c.self.invariant.sound.counted.coded.rising in
    let total = c.self.invariant.sound.counted.total_is in
    omega arith

pub returns-clause-few : goal.returns-clause-few
returns-clause-few g c =
    let points = coded_points c.self.inside.blocks.bytes.items c.self.inside.blocks.handles.items in
    let n : map.len c.args.self.now.points ≡ length points - c.self.inside.blocks.cut = sym (ap (λ (s : BlockColumnState). map.len s.points) c.self.view_is) ∙ cut_length c.self.inside.blocks.cut points c.self.invariant.sound.counted.coded.rising in
    let few = cut_few c.self.inside.blocks.bytes.items c.self.inside.blocks.handles.items c.self.inside.blocks.cut c.self.invariant.sound.counted.coded.marked c.self.invariant.sound.cut_fits in
    let total = c.self.invariant.sound.counted.total_is in
    omega arith

pub returns-clause-blocks : goal.returns-clause-blocks
returns-clause-blocks g c =
    c.self.invariant.sound.counted.total_is
    ∙ ap length (coded_concat c.self.inside.blocks.bytes.items c.self.inside.blocks.handles.items)
    ∙ ap (λ (s : BlockColumnState). length (all_joined s.blocks)) c.self.view_is
