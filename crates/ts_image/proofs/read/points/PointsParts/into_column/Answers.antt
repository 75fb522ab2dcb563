use Rattle.std.proofs.Common.{ℤ, List, sym}
use Rattle.std.specs.FinMap as finmap
use Rattle.ts_image.proofs.PartedPoints.{column_alone, alone}
use Rattle.ts_image.proofs.read.points.PointsParts.into_column.Goals as goal

pub returns : goal.returns
returns g c =
    let i = c.self.inside in
    let ps : List (ℤ × ℤ) = finmap.entries i.column.points in
    sym (column_alone ps i.others.items c.args.self c.self.view_is (alone ps i.last i.others.items c.args.self c.self.invariant c.self.view_is c.requires.timed c.requires.rising))
