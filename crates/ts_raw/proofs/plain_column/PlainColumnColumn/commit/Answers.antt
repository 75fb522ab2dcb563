use Rattle.std.proofs.Common.{true≢false, sym, rules}
use Rattle.std.specs.Cmp.{int_cmp_total}
use Rattle.ts_raw.proofs.PointMaps.{from_sorted-put, rising-put, timed-put}
use Rattle.ts_raw.proofs.plain_column.PlainColumnColumn.commit.Goals as goal

pub invariant_of-self : goal.invariant_of-self
invariant_of-self g c = record {
  rising = rw c.insert_point.ensures (rising-put c.self.inside.points.items c.self.invariant.rising c.unwrap-point.result.0 c.unwrap-point.result.1);
  timed = rw c.insert_point.ensures (timed-put c.self.inside.points.items c.self.invariant.timed c.unwrap-point.result.0 c.unwrap-point.result.1 (search rules));
  spare = λ h. absurd (true≢false (sym (rw c.take.ensures.after at h)));
}

pub returns-clause-put : goal.returns-clause-put
returns-clause-put g c =
    let point = c.unwrap-point.result in
    rw (← c.self.view_is, ← c.take.ensures.value, c.unwrap-point.ensures, c.insert_point.ensures)
    (from_sorted-put int_cmp_total c.self.inside.points.items c.self.invariant.rising point.0 point.1)
