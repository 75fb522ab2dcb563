use Rattle.std.proofs.Common.{rules}
use Rattle.std.specs.Ordering.{int_cmp}
use Rattle.std.specs.Cmp.{int_cmp_total}
use Rattle.std.proofs.lemmas.Fn.{always_returns_same}
use Rattle.ts_core.proofs.lists.Places.{rises}
use Rattle.ts_cells.proofs.Searches.{slot_found}
use Rattle.ts_cells.proofs.cells.search_row.Goals as goal

pub returns-clause-slot : goal.returns-clause-slot
returns-clause-slot g c =
    slot_found (λ r. int_cmp r.0 c.args.index.now) c.args.rows.now c.binary_search_by.result (rises int_cmp_total c.args.rows.now c.requires c.args.index.now)
    (c.binary_search_by.ensures.position (λ r. int_cmp r.0 c.args.index.now) (always_returns_same _ _ _ (λ a r q called. search rules)))
