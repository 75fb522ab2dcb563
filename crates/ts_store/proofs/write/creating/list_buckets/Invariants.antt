use Rattle.std.proofs.Common.{◌≡◌, take}
use Rattle.ts_store.specs.write.CellsCreated.{bucket_indices}
use Rattle.ts_store.proofs.write.creating.list_buckets.Given as goal

abbrev pub invariant-loop-rule : goal.invariant-loop-rule
invariant-loop-rule g l = l.buckets.items ≡ bucket_indices (take l.rule-index l.rules) l.time
