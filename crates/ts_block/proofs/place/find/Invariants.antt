use Rattle.std.proofs.Common.{◌-◌, ◌≤◌, ℤ, List}
use Rattle.ts_block.specs.Blocks.{IsBlockOf}
use Rattle.ts_block.proofs.PlaceLemmas.{IsSearch}
use Rattle.ts_block.proofs.place.find.Given as goal

abbrev pub invariant-loop-index : goal.invariant-loop-index
invariant-loop-index l = (l.index ≤ l.limit) × ((points : List (ℤ × ℤ)) → IsBlockOf l.block points → IsSearch points l.time l.first l.all_steps l.all_values l.index l.before l.now l.from l.steps l.rest)

abbrev pub decreases-loop-index : goal.decreases-loop-index
decreases-loop-index l = l.limit - l.index
