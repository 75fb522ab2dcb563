use Rattle.ts_raw.proofs.RisingPoints.{points_skipped}
use Rattle.ts_raw.proofs.points.Points.next_whole.Goals as goal

pub invariant_of-self : goal.invariant_of-self
invariant_of-self c = points_skipped _ _ c.self.inside.coded c.self.inside.plain.now c.next_whole.result c.next_whole.new.self c.next_whole.ensures c.self.invariant.1 c.self.invariant.0
