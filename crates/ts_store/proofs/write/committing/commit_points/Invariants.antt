use Rattle.ts_store.proofs.write.PointsPut.{AreLeft}
use Rattle.ts_store.proofs.write.committing.commit_points.Given as goal

abbrev pub invariant-loop-number : goal.invariant-loop-number
invariant-loop-number g l = AreLeft l.rules l.time l.numbers l.fields l.initial.columns.items l.initial.rollups l.number-iterator.a.rest.now l.number-iterator.b.rest.now l.columns.items l.rollups
