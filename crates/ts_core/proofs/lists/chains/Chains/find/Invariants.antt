use Rattle.std.proofs.Common.{false}
use Rattle.ts_core.proofs.lists.ChainSearches.{IsSearched, places_left}
use Rattle.ts_core.proofs.lists.chains.Chains.find.Given as goal

abbrev pub invariant-loop-next : goal.invariant-loop-next
invariant-loop-next g l = IsSearched l.self l.hash (λ at. goal.F-post g l.is at false) l.next

abbrev pub decreases-loop-next : goal.decreases-loop-next
decreases-loop-next g l = places_left l.next
