use Rattle.ts_raw.specs.TagChains.{head_of}
use Rattle.ts_raw.proofs.TagLemmas.{links_left, IsGathered}
use Rattle.ts_raw.proofs.index.tags.TagTable.series_of.Given as goal

abbrev pub invariant-loop-next : goal.invariant-loop-next
invariant-loop-next g l = IsGathered l.self-inside.links.items (head_of l.self-inside.newest.entries l.fn.hash) l.found.items l.next

abbrev pub decreases-loop-next : goal.decreases-loop-next
decreases-loop-next g l = links_left l.next
