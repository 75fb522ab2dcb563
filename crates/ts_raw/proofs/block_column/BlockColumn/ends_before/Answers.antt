use Rattle.std.proofs.Common.{◌<ℤ◌, ℤ, sym, ap, subst, ◌∙◌, int_cmp}
use Rattle.std.specs.FinMap as map
use Rattle.std.specs.FinMap.{entries-from_sorted}
use Rattle.std.specs.List.{AllByRecursion}
use Rattle.ts_raw.specs.BlockColumns.{BlockColumnState}
use Rattle.ts_raw.specs.CodedBlocks.{points_of_blocks}
use Rattle.ts_raw.proofs.ColumnBlocks.{points_rise}
use Rattle.ts_raw.proofs.block_column.BlockColumn.ends_before.Goals as goal

pub returns : goal.returns
returns g c = λ later.
    let b = c.self.inside.blocks in
    subst (AllByRecursion (λ (p : ℤ × ℤ). p.0 <ℤ c.args.time))
    (sym (entries-from_sorted int_cmp (points_of_blocks b) (points_rise b c.self.invariant.sound)) ∙ ap (λ (s : BlockColumnState). map.entries s.points) c.self.view_is)
    (c.end_before.ensures later)
