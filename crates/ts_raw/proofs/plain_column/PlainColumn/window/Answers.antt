use Rattle.std.proofs.Common.{rules, SFits, ◌∙◌, ap, sym, subst, filter, to_z, of_z, w64, to_z-of_z, ℤ, List}
use Rattle.std.specs.Ordering.{int_cmp}
use Rattle.std.specs.FinMap as map
use Rattle.std.specs.FinMap.{entries-from_sorted}
use Rattle.ts_core.specs.facts.Facts.{is_within}
use Rattle.ts_raw.specs.Columns.{ColumnState, AreTimed, points_within}
use Rattle.ts_raw.proofs.PointMaps.{timed-where}
use Rattle.ts_raw.proofs.plain_column.PlainColumn.window.Goals as goal

pub returns-clause-points : goal.returns-clause-points
returns-clause-points g c =
    let points = c.self.inside.points.items in
    let within : ℤ → ℤ → List (ℤ × ℤ) → List (ℤ × ℤ) = λ a b ps. filter (λ (p : ℤ × ℤ). is_within a b p.0) ps in
    let from_fits : SFits w64 c.args.from = search rules in
    let to_fits : SFits w64 c.args.to = search rules in
    c.between.ensures
    ∙ ap (λ z. within z (to_z w64 (of_z w64 c.args.to)) c.as_slice.result.now) (to_z-of_z from_fits)
    ∙ ap (λ z. within c.args.from z c.as_slice.result.now) (to_z-of_z to_fits)
    ∙ ap (within c.args.from c.args.to) (c.as_slice.ensures.value ∙ sym (entries-from_sorted int_cmp points c.self.invariant.rising))
    ∙ ap (λ (s : ColumnState). points_within s.points c.args.from c.args.to) c.self.view_is

pub returns-clause-timed : goal.returns-clause-timed
returns-clause-timed g c = rw (c.between.ensures, c.as_slice.ensures.value) (timed-where _ c.self.inside.points.items c.self.invariant.timed)

pub returns-clause-all_timed : goal.returns-clause-all_timed
returns-clause-all_timed g c =
    subst AreTimed (sym (entries-from_sorted int_cmp c.self.inside.points.items c.self.invariant.rising) ∙ ap (λ (s : ColumnState). map.entries s.points) c.self.view_is) c.self.invariant.timed
