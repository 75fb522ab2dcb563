use Rattle.std.proofs.Common.{ℤ, List, take}
use Rattle.ts_raw.proofs.RisingPoints.{rising_front, all_rising, points_left}
use Rattle.ts_raw.proofs.points.Points.next_run.Goals as goal

pub invariant_of-self : goal.invariant_of-self
invariant_of-self c =
    let front : List (ℤ × ℤ) = take c.fill-count.result.0 c.fill-count.new.room in
    points_left c.self.inside.coded c.self.inside.plain.now front c.fill-count.new.self c.fill-count.ensures.points c.self.invariant.1 c.self.invariant.0

pub new-requires-clause-rising : goal.new-requires-clause-rising
new-requires-clause-rising c =
    let front : List (ℤ × ℤ) = take c.fill-count.result.0 c.fill-count.new.room in
    rising_front front _ (all_rising c.self.inside.coded c.self.inside.plain.now front c.fill-count.new.self c.fill-count.ensures.points c.self.invariant.1)
