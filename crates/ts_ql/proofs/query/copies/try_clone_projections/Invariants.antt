use Rattle.std.proofs.Common.{◌≡◌, take}
use Rattle.ts_ql.proofs.query.copies.try_clone_projections.Given as goal

abbrev pub invariant-loop-column : goal.invariant-loop-column
invariant-loop-column g l = l.all.items ≡ take l.column-index l.columns
