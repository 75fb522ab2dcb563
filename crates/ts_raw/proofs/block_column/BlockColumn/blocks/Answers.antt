use Rattle.std.proofs.Common.{ℕ, ℤ, List, drop, sym, ap, subst, ◌∙◌, int_cmp}
use Rattle.std.specs.FinMap as map
use Rattle.std.specs.FinMap.{entries-from_sorted}
use Rattle.ts_raw.specs.declared.block_handle.BlockHandle.{BlockHandle}
use Rattle.ts_raw.specs.BlockColumns.{BlockColumnState, HoldPoints, texts_at}
use Rattle.ts_raw.specs.CodedPoints.{AreCountedBlocks, coded_points, blocks_at}
use Rattle.ts_raw.proofs.CutLemmas.{is_rising_behind}
use Rattle.ts_raw.proofs.BlockLists.{coded_concat}
use Rattle.ts_raw.proofs.ColumnBlocks.{cut_few, blocks_are}
use Rattle.ts_raw.proofs.block_column.BlockColumn.blocks.Goals as goal

pub new-requires : goal.new-requires
new-requires g c =
    subst (λ (x : List ℕ). AreCountedBlocks x c.as_slice.result.now c.self.inside.blocks.total) (sym c.as_slice-bytes.ensures.value) (subst (λ (x : List BlockHandle). AreCountedBlocks c.self.inside.blocks.bytes.items x c.self.inside.blocks.total) (sym c.as_slice.ensures.value) c.self.invariant.sound.counted)

pub returns : goal.returns
returns g c =
    let bytes : List ℕ = c.self.inside.blocks.bytes.items in
    let ms : List BlockHandle = c.self.inside.blocks.handles.items in
    let cut : ℕ = c.self.inside.blocks.cut in
    let all : List (ℤ × ℤ) = coded_points bytes ms in
    let texts = c.new.ensures ∙ (λ i. texts_at (c.as_slice-bytes.ensures.value i) (c.as_slice.ensures.value i)) in
    subst (λ (x : BlockColumnState). HoldPoints (map.entries x.points) x.blocks c.new.result) c.self.view_is (subst (HoldPoints _ (blocks_at bytes ms)) (sym texts) (record {
      blocks = blocks_are bytes ms c.self.invariant.sound.counted.coded.marked;
      removed = cut;
      few = cut_few bytes ms cut c.self.invariant.sound.counted.coded.marked c.self.invariant.sound.cut_fits;
      points_are = entries-from_sorted int_cmp (drop cut all) (is_rising_behind cut all c.self.invariant.sound.counted.coded.rising) ∙ ap (drop cut) (coded_concat bytes ms);
    }))
