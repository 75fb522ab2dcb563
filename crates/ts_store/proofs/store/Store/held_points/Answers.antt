use Rattle.std.proofs.Common.{List, ap, subst}
use Rattle.ts_core.specs.store.StoreStates.{ColumnPoints}
use Rattle.ts_core.specs.store.StoreData.{StoreData}
use Rattle.ts_store.specs.store.BlocksHeld.{HoldColumns}
use Rattle.ts_store.proofs.store.Store.held_points.Goals as goal

pub returns-clause-blocks : goal.returns-clause-blocks
returns-clause-blocks g c =
    let b = c.held_points.ensures.blocks in
    (b.0, subst (λ (cs : List ColumnPoints). HoldColumns cs b.0) (ap (λ (k : StoreData). k.columns) c.self.view_is) b.1, b.2)
