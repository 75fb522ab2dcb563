use Rattle.std.proofs.Common.{rules, ℤ, filter, int_le, int_cmp, ap, ◌∙◌, arith, SFits, w64, to_z-of_z}
use Rattle.std.specs.FinMap as map
use Rattle.ts_raw.specs.Columns.{points_from}
use Rattle.ts_raw.specs.BlockColumns.{BlockColumnState}
use Rattle.ts_raw.specs.CodedBlocks.{points_of_blocks}
use Rattle.ts_raw.proofs.PointMaps.{kept_map}
use Rattle.ts_raw.proofs.ColumnBlocks.{points_rise}
use Rattle.ts_raw.proofs.SlidingLemmas.{sizes_are}
use Rattle.ts_raw.proofs.block_column.BlockColumnColumn.drop_below.Goals as goal

pub returns-clause-kept : goal.returns-clause-kept
returns-clause-kept g c =
    let b = c.self.inside.blocks in
    let fits : SFits w64 c.nanos.result = search rules in
    let mark = to_z-of_z fits ∙ c.nanos.ensures.value in
    ap (map.from_sorted {R = int_cmp}) (c.drop_below.ensures.points ∙ ap (λ t. filter (λ (p : ℤ × ℤ). int_le t p.0) (points_of_blocks b)) mark)
    ∙ kept_map (points_of_blocks b) (points_rise b c.self.invariant.sound) (int_le c.args.mark)
    ∙ ap (λ (s : BlockColumnState). points_from s.points c.args.mark) c.self.view_is

pub returns-clause-few_dead : goal.returns-clause-few_dead
returns-clause-few_dead g c =
    let new = c.drop_below.new.self in
    let size = sizes_are new.bytes.items new.handles.items c.drop_below.ensures.sound.counted.coded.marked in
    let few = c.drop_below.ensures.few_dead in
    omega arith
