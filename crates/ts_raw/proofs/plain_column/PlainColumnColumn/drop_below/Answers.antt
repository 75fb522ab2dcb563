use Rattle.std.proofs.Common.{rules, true≢false, sym, SFits, w64, to_z-of_z, ◌∙◌, ap}
use Rattle.ts_raw.specs.Columns.{ColumnState, points_from}
use Rattle.ts_raw.proofs.PointRanges.{rising-drop, timed-drop, from_sorted-drop}
use Rattle.ts_raw.proofs.plain_column.PlainColumnColumn.drop_below.Goals as goal

pub invariant_of-self : goal.invariant_of-self
invariant_of-self g c =
    let points = c.self.inside.points.items in
    let start = rw c.as_slice.ensures.value at c.count_before-count.ensures.start in
    let bound = rw c.as_slice.ensures.value at c.count_before-count.ensures.bound in
    record {
      rising = rw c.drop_front.ensures (rising-drop points c.self.invariant.rising _ c.count_before-count.result start bound);
      timed = rw c.drop_front.ensures (timed-drop points c.self.invariant.timed _ c.count_before-count.result start bound);
      spare = λ h. absurd (true≢false (sym h));
    }

pub returns-clause-kept : goal.returns-clause-kept
returns-clause-kept g c =
    let points = c.self.inside.points.items in
    let fits : SFits w64 c.nanos.result = search rules in
    let mark = to_z-of_z fits ∙ c.nanos.ensures.value in
    let start = rw (c.as_slice.ensures.value, mark) at c.count_before-count.ensures.start in
    let bound = rw c.as_slice.ensures.value at c.count_before-count.ensures.bound in
    rw c.drop_front.ensures (from_sorted-drop points c.self.invariant.rising c.args.mark c.count_before-count.result start bound)
    ∙ ap (λ (s : ColumnState). points_from s.points c.args.mark) c.self.view_is
