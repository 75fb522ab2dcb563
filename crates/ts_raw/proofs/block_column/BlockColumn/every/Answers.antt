use Rattle.std.proofs.Common.{sym, ap, subst, ◌∙◌, int_cmp}
use Rattle.std.specs.FinMap as map
use Rattle.std.specs.FinMap.{entries-from_sorted}
use Rattle.ts_raw.specs.BlockColumns.{BlockColumnState}
use Rattle.ts_raw.specs.Columns.{AreTimed}
use Rattle.ts_raw.specs.CodedBlocks.{points_of_blocks}
use Rattle.ts_raw.proofs.ColumnBlocks.{points_rise, points_timed}
use Rattle.ts_raw.proofs.block_column.BlockColumn.every.Goals as goal

pub returns-clause-points : goal.returns-clause-points
returns-clause-points g c =
    let b = c.self.inside.blocks in
    c.every.ensures ∙ sym (entries-from_sorted int_cmp (points_of_blocks b) (points_rise b c.self.invariant.sound)) ∙ ap (λ (s : BlockColumnState). map.entries s.points) c.self.view_is

pub returns-clause-timed : goal.returns-clause-timed
returns-clause-timed g c = subst AreTimed (sym c.every.ensures) (points_timed c.self.inside.blocks c.self.invariant.sound)
