use Rattle.ts_image.specs.Images.{image_point}
use Rattle.ts_image.proofs.Putting.{Going}
use Rattle.ts_image.proofs.Saved.{as_it_is}
use Rattle.ts_image.proofs.write.columns.put_points.Given as goal

abbrev pub invariant-loop-time : goal.invariant-loop-time
invariant-loop-time g l = Going image_point as_it_is l.initial.sink l.initial.out l.fn.points l.time-iterator l.sink l.out
