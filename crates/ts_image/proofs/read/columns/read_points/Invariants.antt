use Rattle.std.proofs.Common.{◌-◌}
use Rattle.ts_image.specs.Images.{image_point}
use Rattle.ts_image.proofs.Loops.{HasRead}
use Rattle.ts_image.proofs.read.columns.read_points.Given as goal

abbrev pub invariant-loop : goal.invariant-loop
invariant-loop g l = HasRead image_point l.count (l.count - l.counter) l.points l.initial.reader l.initial.source l.reader l.source
