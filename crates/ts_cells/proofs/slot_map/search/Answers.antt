use Rattle.std.proofs.Common.{rules}
use Rattle.std.specs.Ordering.{nat_cmp}
use Rattle.std.proofs.lemmas.Cmp.{nat_cmp_total}
use Rattle.std.proofs.lemmas.Fn.{always_returns_same}
use Rattle.ts_core.proofs.lists.Places.{rises}
use Rattle.ts_cells.proofs.Searches.{slot_found}
use Rattle.ts_cells.proofs.slot_map.search.Goals as goal

pub returns-clause-slot : goal.returns-clause-slot
returns-clause-slot c =
    slot_found (λ e. nat_cmp e.0 c.args.series) c.args.slots.now c.binary_search_by.result (rises nat_cmp_total c.args.slots.now c.requires c.args.series)
    (c.binary_search_by.ensures.position (λ e. nat_cmp e.0 c.args.series) (always_returns_same _ _ _ (λ a r q called. search rules)))
