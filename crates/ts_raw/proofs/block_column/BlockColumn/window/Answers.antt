use Rattle.std.proofs.Common.{rules, ℤ, List, filter, ◌∙◌, ap, sym, SFits, w64, to_z-of_z, int_cmp, subst}
use Rattle.std.specs.FinMap as map
use Rattle.std.specs.FinMap.{entries-from_sorted}
use Rattle.ts_core.specs.facts.Facts.{is_within}
use Rattle.ts_raw.specs.BlockColumns.{BlockColumnState}
use Rattle.ts_raw.specs.Columns.{AreTimed, points_within}
use Rattle.ts_raw.specs.CodedBlocks.{points_of_blocks}
use Rattle.ts_raw.proofs.ColumnBlocks.{points_rise, points_timed}
use Rattle.ts_raw.proofs.block_column.BlockColumn.window.Goals as goal

pub returns-clause-points : goal.returns-clause-points
returns-clause-points g c =
    let b = c.self.inside.blocks in
    let within : ℤ → ℤ → List (ℤ × ℤ) → List (ℤ × ℤ) = λ a b ps. filter (λ (p : ℤ × ℤ). is_within a b p.0) ps in
    let from_fits : SFits w64 c.args.from = search rules in
    let to_fits : SFits w64 c.args.to = search rules in
    c.window.ensures.points
    ∙ (λ i. within (to_z-of_z from_fits i) (to_z-of_z to_fits i) (points_of_blocks b))
    ∙ ap (within c.args.from c.args.to) (sym (entries-from_sorted int_cmp (points_of_blocks b) (points_rise b c.self.invariant.sound)))
    ∙ ap (λ (s : BlockColumnState). points_within s.points c.args.from c.args.to) c.self.view_is

pub returns-clause-all_timed : goal.returns-clause-all_timed
returns-clause-all_timed g c =
    let b = c.self.inside.blocks in
    subst AreTimed (sym (entries-from_sorted int_cmp (points_of_blocks b) (points_rise b c.self.invariant.sound)) ∙ ap (λ (s : BlockColumnState). map.entries s.points) c.self.view_is) (points_timed b c.self.invariant.sound)
